use Rattle.std.proofs.Common.{sym, subst, ℕ}
use Rattle.java_tree.specs.Seen.{seen}
use Rattle.java_brackets.specs.Steps.{IsPairing}
use Rattle.java_brackets.proofs.Kept.{all_partnered, length_seen}
use Rattle.java_brackets.proofs.pairing.partners_of.Goals as goal

pub returns : goal.returns
returns c =
    let P : ℕ → Type 0 = λ n. IsPairing (seen c.args.tokens.now) n c.in_ok-pairing.pairing in
    let pairing = subst P (sym (length_seen c.args.tokens.now)) c.in_ok-pairing.ensures in
    all_partnered (seen c.args.tokens.now) c.in_ok-pairing.pairing.partners.items pairing.partners c.requires.whole
