-- Each of the six numbers is the closure's at its index, so the list is the table of them.
use Rattle.std.proofs.Common.{rules, arith, ◌≡◌, ◌<◌, ℕ, get_or, cond, sym, ◌∙◌, below_more}
use Rattle.std.proofs.lemmas.List.{ext_get_or}
use Rattle.lists.specs.Each.{table}
use Rattle.lists.proofs.Each.{length_table, get_d_table}
use Rattle.frames.specs.Bits.{bit_of}
use Rattle.scenes.proofs.by_channel.Goals as goal

pub returns : goal.returns
returns c =
    let l = c.from_fn.result in
    let f : ℕ → ℕ = λ k. cond (bit_of c.args.mask k) c.args.named c.args.other in
    let e0 : get_or l 0 0 ≡ f 0 = search rules in
    let e1 : get_or l 1 0 ≡ f 1 = search rules in
    let e2 : get_or l 2 0 ≡ f 2 = search rules in
    let e3 : get_or l 3 0 ≡ f 3 = search rules in
    let e4 : get_or l 4 0 ≡ f 4 = search rules in
    let e5 : get_or l 5 0 ≡ f 5 = search rules in
    let long = c.from_fn.ensures.items.long in
    let none : (k : ℕ) → k < 0 → get_or l k 0 ≡ f k = λ k h. absurd (omega arith) in
    let below_3 = below_more _ _ (below_more _ _ (below_more _ _ none e0) e1) e2 in
    let below_6 = below_more _ _ (below_more _ _ (below_more _ _ below_3 e3) e4) e5 in
    ext_get_or 0 l (table 6 f) (long ∙ sym (length_table 6 f))
    (λ k h. below_6 k (omega (arith, h, long)) ∙ sym (get_d_table 6 f 0 k (omega (arith, h, long))))
