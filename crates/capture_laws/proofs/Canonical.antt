-- Bytes that are accepted are those that writing makes of the cells that they hold: a code, a frame, the frames, the capture. Rests on the same two
-- laws.
use Prim.Native.Nat.{ℕ, zero, suc, ◌+◌, zero-le}
use mathlib.Core.Path.{◌≡◌, refl, sym, ◌∙◌, ap, subst}
use mathlib.Core.List.{List, [], ◌∷◌, ◌++◌, append_assoc, append-nil}
use mathlib.Core.Bool.{Bool, true, false, cond}
use lib.ListN.{length, take, drop, length-take, drop_of_length-le}
use lib.Seq.{drop-drop, take-append-le, take_at, drop_at, get_or_at}
use lib.Dec.{eqb}
use lib.IntN.{sub_ℕ}
use native.Mathlib.Numerals.{add-one}
use native.Mathlib.Omega.{arith}
use borrow.Author.Tests.{eqb-true}
use Rattle.refusals.specs.Refusals.{accepted, mark_differs}
use Rattle.frames.specs.Cells.{codes_at, enable_at, cells_of_frame, frames_in}
use Rattle.capture.specs.Marks.{mark, codes_before}
use Rattle.capture.specs.Numbers.{found, seven_bit_bytes, sent, received}
use Rattle.capture.proofs.Found.{both}
use Rattle.capture.proofs.Widths.{Bytes, bytes_drop, seven_bit_lem}
use Rattle.capture.proofs.Changes.{sent_received, leads_change}
use Rattle.writer.specs.Writing.{changes, frame_bytes, frames_bytes, capture_of}
use Rattle.reader.specs.Reading.{code, join, codes_from, frame, frames, mark_fault, empty_input, capture}
use Rattle.reader.proofs.Codes.{code_found}
use Rattle.reader.proofs.Frames.{frame_found, frame_inside}
use Rattle.reader.proofs.Laws.{captured, captured_length}

code_bytes : (p : ℕ) (s : List ℕ) (c n : ℕ) → Bytes s → code p s ≡ found c n → s ≡ seven_bit_bytes (sent (sub_ℕ c p)) ++ drop n s
code_bytes p s c n B e =
    let F = code_found p s c n e in
    let z : sent (sub_ℕ c p) ≡ F.z = ap sent (leads_change p c (received F.z) F.leads) ∙ sent_received F.z in
    ((seven_bit_lem 1 0 zero-le).shortest s F.z n B F.number_is).0 ∙ rw z

-- One code in front of the others.
codes_join : (p c : ℕ) (previous more s codes : List ℕ) (k l n : ℕ) → s ≡ seven_bit_bytes (sent (sub_ℕ c p)) ++ drop k s
    → drop k s ≡ changes previous more ++ drop l (drop k s)
    → c ∷ more ≡ codes → k + l ≡ n → s ≡ changes (p ∷ previous) codes ++ drop n s
unfolding changes
codes_join p c previous more s codes k l n e f x y =
    let g = seven_bit_bytes (sent (sub_ℕ c p)) in
    e ∙ ap (λ (t : List ℕ). g ++ t) f ∙ rw (← x, ← y) (rw (append_assoc g (changes previous more) (drop (k + l) s), drop-drop l k s))

codes_bytes : (previous s codes : List ℕ) (n : ℕ) → Bytes s → codes_from previous s ≡ found codes n → s ≡ changes previous codes ++ drop n s
unfolding codes_from changes
codes_bytes [] s codes n B e = let z : 0 ≡ n = cc in ap (λ (k : ℕ). drop k s) z
codes_bytes (p ∷ previous) s codes n B e =
    let b = both (code p s) (λ c k. join (c ∷ []) k (codes_from previous (drop k s))) e in
    let d = both (codes_from previous (drop b.1 s)) (λ more l. found ((b.0 ∷ []) ++ more) (b.1 + l)) b.3 in
    codes_join p b.0 previous d.0 s codes b.1 d.1 n (code_bytes p s b.0 b.1 B b.2)
    (codes_bytes previous (drop b.1 s) d.0 d.1 (bytes_drop b.1 s B) d.2) (cc) (cc)

-- The enable byte in front of the codes; in memory it stands behind them.
frame_join : (previous codes rest more s cells : List ℕ) (e size n : ℕ) → length codes ≡ 6 → rest ≡ changes previous codes ++ drop size rest
    → s ≡ e ∷ rest → cells ≡ cells_of_frame codes e → n ≡ size + 1
    → s ≡ frame_bytes previous (codes_at (cells ++ more) 0) (enable_at (cells ++ more) 0) ++ drop n s
unfolding frame_bytes
frame_join previous codes rest more s cells e size n six w p q r =
    rw (p, q, r, add-one size)
    (rw (append_assoc codes (e ∷ []) more)
    (rw (get_or_at codes e more 0 6 six, take_at codes (e ∷ more) 6 six) (ap (λ (t : List ℕ). e ∷ t) w)))

frame_bytes_lem : (previous s cells : List ℕ) (n : ℕ) → length previous ≡ 6 → Bytes s → frame previous s ≡ found cells n → (more : List ℕ)
    → s ≡ frame_bytes previous (codes_at (cells ++ more) 0) (enable_at (cells ++ more) 0) ++ drop n s
frame_bytes_lem previous s cells n l B e more =
    let F = frame_found previous s cells n e in
    let B' : Bytes (F.enable ∷ F.rest) = subst Bytes F.bytes_are B in
    frame_join previous F.codes F.rest more s cells F.enable F.size n (F.found_codes.as_many ∙ l)
    (codes_bytes previous F.rest F.codes F.size (λ i. B' (suc i)) F.codes_are) F.bytes_are F.cells_are F.size_is

-- One frame in front of the others.
frames_join : (n : ℕ) (previous x ys s cells : List ℕ) (k j m : ℕ) → length x ≡ 7
    → s ≡ frame_bytes previous (codes_at (x ++ ys) 0) (enable_at (x ++ ys) 0) ++ drop k s → drop k s ≡ frames_bytes n (take 6 x) ys ++ drop j (drop k s)
    → x ++ ys ≡ cells → k + j ≡ m → s ≡ frames_bytes (suc n) previous cells ++ drop m s
unfolding frames_bytes
frames_join n previous x ys s cells k j m seven e f u v =
    let first = frame_bytes previous (codes_at (x ++ ys) 0) (enable_at (x ++ ys) 0) in
    let front : take 6 x ≡ codes_at (x ++ ys) 0 = sym (take-append-le 6 x ys (omega (arith, seven))) in
    rw (← u, ← v)
    (rw (drop_at x ys 7 seven)
    (e ∙ ap (λ (t : List ℕ). first ++ t) (f ∙ ap (λ (c : List ℕ). frames_bytes n c ys ++ drop j (drop k s)) front)
    ∙ rw (drop-drop j k s, append_assoc first (frames_bytes n (codes_at (x ++ ys) 0) ys) (drop (k + j) s))))

frames_bytes_lem : (n : ℕ) (previous s cells : List ℕ) (m : ℕ) → length previous ≡ 6 → Bytes s → frames n previous s ≡ found cells m
    → s ≡ frames_bytes n previous cells ++ drop m s
unfolding frames frames_bytes
frames_bytes_lem zero previous s cells m l B e = let z : 0 ≡ m = cc in ap (λ (k : ℕ). drop k s) z
frames_bytes_lem (suc n) previous s cells m l B e =
    let b = both (frame previous s) (λ xs k. join xs k (frames n (take 6 xs) (drop k s))) e in
    let d = both (frames n (take 6 b.0) (drop b.1 s)) (λ more j. found (b.0 ++ more) (b.1 + j)) b.3 in
    let seven : length b.0 ≡ 7 = (frame_inside previous s b.0 b.1 b.2).1 ∙ ap (λ (j : ℕ). j + 1) l in
    let six : length (take 6 b.0) ≡ 6 = simp length-take (omega (arith, seven)) in
    frames_join n previous b.0 d.0 s cells b.1 d.1 m seven (frame_bytes_lem previous s b.0 b.1 l B b.2 d.0)
    (frames_bytes_lem n (take 6 b.0) (drop b.1 s) d.0 d.1 six (bytes_drop b.1 s B) d.2) (cc) (cc)

mark_bytes : (ms s : List ℕ) → mark_fault ms s ≡ accepted → s ≡ ms ++ drop (length ms) s
unfolding mark_fault
mark_bytes [] s e = refl
mark_bytes (m ∷ ms) [] e = absurd (omega arith)
mark_bytes (m ∷ ms) (b ∷ s) e = go (mark_bytes ms s) (eqb b m) refl e
  where
    go : (mark_fault ms s ≡ accepted → s ≡ ms ++ drop (length ms) s) → (t : Bool) → eqb b m ≡ t
        → cond t (mark_fault ms s) mark_differs ≡ accepted → b ∷ s ≡ m ∷ (ms ++ drop (length ms) s)
    go ih true p q = λ i. eqb-true b m p i ∷ ih q i
    go ih false p q = absurd (omega arith)

-- Accepted bytes are the capture of the cells that they hold, but for the input of no bytes.
pub capture_bytes : (s cells : List ℕ) (size : ℕ) → Bytes s → (s ≡ empty_input → ⊥) → capture s ≡ found cells size → s ≡ capture_of cells
unfolding capture_of
capture_bytes s cells size B some e =
    let C = captured s cells size some e in
    let k = C.count_size in
    let t = drop k (drop 3 s) in
    let n : C.n ≡ frames_in cells = omega (arith, captured_length s cells size some e) in
    let G = (seven_bit_lem 1 0 zero-le).shortest (drop 3 s) C.n k (bytes_drop 3 s B) C.count_is in
    let F = frames_bytes_lem C.n codes_before t cells size refl (bytes_drop k (drop 3 s) (bytes_drop 3 s B)) C.frames_are in
    let z : drop size t ≡ [] = drop_of_length-le t C.nothing_after_lem in
    let fr : t ≡ frames_bytes C.n codes_before cells = F ∙ rw (z, append-nil (frames_bytes C.n codes_before cells)) in
    mark_bytes mark s C.mark_is ∙ ap (λ (x : List ℕ). mark ++ x) (G.0 ∙ ap (λ (x : List ℕ). seven_bit_bytes C.n ++ x) fr) ∙ rw n
