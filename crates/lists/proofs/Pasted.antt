-- A loop that copies items one by one into another list. Rests on the library's `paste`.
use Rattle.std.proofs.Common.{◌≡◌, ℕ, ◌+◌, ◌<◌, ◌≤◌, List, length, get_or, set, ap, ◌∙◌, add-one, arith}
use lib.Seq.{sets, sets-eq, paste, paste-zero, paste-suc, length-paste, take-length}

-- Of `items` the first k are put into `old` from `at` on.
pub record Pasted (old : List ℕ) (at : ℕ) (items new : List ℕ) (k : ℕ) : Type 0 where
  pub room : at + length items ≤ length old
  pub within : k ≤ length items
  pub is : new ≡ paste old at items k

module _ (old : List ℕ) (at : ℕ) (items : List ℕ) where
  pub pasted_none : at + length items ≤ length old → Pasted old at items old 0
  pasted_none h = record { room = h; within = omega arith; is = paste-zero old at items }

  module _ (new : List ℕ) (k : ℕ) (P : Pasted old at items new k) where
    pub pasted_length : length new ≡ length old
    pasted_length = ap length P.is ∙ length-paste old at items k (omega (arith, P.room, P.within)) P.within

    pub pasted_write : k < length items → at + k < length new
    pasted_write h = omega (arith, pasted_length, P.room)

    pub pasted_more : k < length items → Pasted old at items (set new (at + k) (get_or items k 0)) (k + 1)
    pasted_more h =
        record {
          room = P.room;
          within = omega arith;
          is = rw (P.is, add-one k) (paste-suc old at items k 0 (omega (arith, P.room)) h);
        }

    pub pasted_all : length items ≤ k → new ≡ sets old at items
    pasted_all h =
        let e : k ≡ length items = omega (arith, P.within) in
        rw (P.is, e, sets-eq items old at P.room, take-length items)
