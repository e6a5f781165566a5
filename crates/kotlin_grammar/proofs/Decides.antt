-- One kind ahead decides each form of the grammar, whatever its actions are.
use Rattle.std.proofs.Common.{◌≡◌, Bool, true, false, List, [], ◌∷◌, Option, refl}
use Rattle.std.specs.Prelude.{if◌then◌else◌, nat_eq}
use Rattle.grammar.specs.declared.symbols.Symbol.TheVariants as y
use Rattle.grammar.specs.Certificate.{IsDecided}
use Rattle.grammar.proofs.LawsToCite.{Good}
use Rattle.kotlin_tree.specs.declared.tokens.KToken.{KToken}
use Rattle.kotlin_grammar.specs.declared.letters.Kind.{Kind}
use Rattle.kotlin_grammar.specs.declared.letters.Kind.TheVariants as k
use Rattle.kotlin_grammar.specs.declared.letters.Term.{Term}
use Rattle.kotlin_grammar.specs.declared.letters.Form.TheVariants as f
use Rattle.kotlin_grammar.specs.declared.letters.Act.{Act}
use Rattle.kotlin_grammar.specs.Table.{code}
use Rattle.kotlin_grammar.specs.Kotlin.{kotlin, by_kind}
use Rattle.kotlin_grammar.proofs.FirstAndFollowing.{follows}
use Rattle.kotlin_grammar.proofs.Lists.{kind_same}
use Rattle.kotlin_grammar.proofs.Decided.{certificate, chosen, closed, followed, owned, heavy}
use Rattle.kotlin_grammar.proofs.Taken.{accepted, shorter}

module _ {Built : Type 0} (push : Term → KToken → Built → Built) (acts : Act → Built → Option Built) where
  pub decided : IsDecided (kotlin push acts) by_kind certificate
  decided = record {
    owned = owned;
    closed = closed;
    followed = followed;
    chosen = chosen;
    heavy = heavy;
    accepted = accepted push;
    shorter = shorter push;
    ended = refl;
  }

  end_follows : (p : Kind → Bool) → p k.End ≡ true → (c : Kind) → nat_eq (code c) 0 ≡ true → p c ≡ true
  end_follows p h c e = rw (kind_same c k.End e) h

  -- nothing follows a file's first piece, and nothing a class
  pub good_head : Good (kotlin push acts) by_kind certificate decided (y.Form f.FileHead ∷ [])
  good_head = (λ c e. end_follows (follows f.FileHead) refl c e, tt)

  pub good_class : Good (kotlin push acts) by_kind certificate decided (y.Form f.ClassForm ∷ [])
  good_class = (λ c e. end_follows (follows f.ClassForm) refl c e, tt)
