use Rattle.std.proofs.Common.{◌≡◌, ◌+◌, ◌-◌, take, drop, length, ap, sym, ◌∙◌, ℕ, List, arith}
use Rattle.std.proofs.lemmas.List.{drop-take, take_rest}
use Rattle.const_fold.specs.Constants.{same_text}
use Rattle.const_fold.proofs.folding.same_units.Goals as goal

pub returns : goal.returns
returns c =
    let s = c.args.units.now in
    let m : c.args.start + (c.args.middle - c.args.start) ≡ c.args.middle = omega arith in
    let l : take (c.args.middle - c.args.start) (drop c.args.start s) ≡ drop c.args.start (take c.args.middle s) = sym (drop-take c.args.start (c.args.middle - c.args.start) s) ∙ ap (λ (n : ℕ). drop c.args.start (take n s)) m in
    let r : take (length s - c.args.middle) (drop c.args.middle s) ≡ drop c.args.middle s = take_rest s c.args.middle in
    c.eq.ensures ∙ ap (λ (x : List ℕ). same_text x (take (length s - c.args.middle) (drop c.args.middle s))) l ∙ ap (same_text (drop c.args.start (take c.args.middle s))) r
