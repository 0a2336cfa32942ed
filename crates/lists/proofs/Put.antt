-- Laws of `Put`: nothing put, items one behind the other, the same items in other words, items put from the front; and a
-- loop that puts a list piece by piece. Rests on Lists.
use Prim.Native.Nat.{ℕ, ◌+◌, ◌≤◌, ◌<◌}
use mathlib.Core.Path.{◌≡◌, refl, sym, ap, subst, ◌∙◌}
use mathlib.Core.List.{List, [], ◌∷◌, ◌++◌, append_assoc, append-nil}
use native.Mathlib.Omega.{arith}
use lib.ListN.{length, drop, set, length-append, length-set}
use lib.Seq.{sets, sets-eq}
use native.Mathlib.Nat.{zero-add}
use Rattle.lists.specs.Put.{Put}
use Rattle.lists.proofs.Lists.{sets_append}

pub put_none : (l : List ℕ) (at : ℕ) → at ≤ length l → Put l at [] l at
put_none l at h = record { fits = omega arith; new_is = refl; next_is = omega arith; kept = refl }

pub put_one : (l : List ℕ) (at item : ℕ) → at < length l → Put l at (item ∷ []) (set l at item) (at + 1)
put_one l at item h = record { fits = omega arith; new_is = refl; next_is = omega arith; kept = length-set l at item }

-- some items, and then others
pub put_then : {a b c xs ys : List ℕ} {at i j : ℕ} → Put a at xs b i → Put b i ys c j → Put a at (xs ++ ys) c j
put_then {a} {b} {c} {xs} {ys} {at} {i} {j} p q =
    record {
      fits = omega (arith, length-append xs ys);
      new_is = q.new_is ∙ ap (λ (l : List ℕ). sets l i ys) p.new_is ∙ ap (λ (k : ℕ). sets (sets a at xs) k ys) p.next_is
          ∙ sym (sets_append a at xs ys);
      next_is = omega (arith, length-append xs ys);
      kept = q.kept ∙ p.kept;
    }

-- the same items in other words
pub put_reworded : {a b xs ys : List ℕ} {at i : ℕ} → ys ≡ xs → Put a at xs b i → Put a at ys b i
put_reworded {a} {b} {xs} {ys} {at} {i} e p = subst (λ (l : List ℕ). Put a at l b i) (sym e) p

-- put from the front: they stand there, and what is past them is untouched
pub put_front : {old items new : List ℕ} {next : ℕ} → Put old 0 items new next
    → (new ≡ items ++ drop (length items) old) × (next ≡ length items)
put_front {old} {items} {new} {next} p =
    (p.new_is ∙ sets-eq items old 0 p.fits ∙ ap (λ (k : ℕ). items ++ drop k old) (zero-add (length items)), omega (arith, p.next_is))

-- ---- piece by piece

-- Of `all`, which has room from `at` on, a front is put, and `rest` is left to put at `next`.
pub record Putting (old : List ℕ) (at : ℕ) (all new : List ℕ) (next : ℕ) (rest : List ℕ) : Type 0 where
  pub front : List ℕ
  pub put : Put old at front new next
  pub room : at + length all ≤ length old
  pub is : all ≡ front ++ rest

pub putting_begin : (old : List ℕ) (at : ℕ) (all : List ℕ) → at + length all ≤ length old → Putting old at all old at all
putting_begin old at all h = record { front = []; put = put_none old at (omega arith); room = h; is = refl }

module _ {old all new rest : List ℕ} {at next : ℕ} (I : Putting old at all new next rest) where
  -- What is left has room.
  pub putting_room : next + length rest ≤ length new
  putting_room =
      omega (arith, I.put.next_is, I.put.kept, I.room, ap length I.is, length-append I.front rest)

  pub putting_more : {item more new' : List ℕ} {next' : ℕ} → rest ≡ item ++ more → Put new next item new' next'
      → Putting old at all new' next' more
  putting_more {item} {more} e q =
      record {
        front = I.front ++ item;
        put = put_then I.put q;
        room = I.room;
        is = I.is ∙ ap (λ (l : List ℕ). I.front ++ l) e ∙ sym (append_assoc I.front item more);
      }

  pub putting_end : rest ≡ [] → Put old at all new next
  putting_end e = put_reworded (I.is ∙ ap (λ (l : List ℕ). I.front ++ l) e ∙ append-nil I.front) I.put
