-- Modifiers that come first, one at a time.
use Rattle.std.proofs.Common.{◌≡◌, ◌<◌, Bool, true, false, if◌then◌else◌, List, [], ◌∷◌, ◌++◌, Option, Some, None, length, refl, ap, sym, ◌∙◌, arith, append_assoc, append-nil}
use Rattle.java_tree.specs.declared.tokens.Position.{Position}
use Rattle.java_tree.specs.declared.tokens.Mark.TheVariants as mark
use Rattle.java_tree.specs.Seen.{Token, Tokens}
use Rattle.java_expr_grammar.specs.Reading.{◌>>=◌, maybe}
use Rattle.java_member_grammar.specs.declared.modifiers.ModifierKind.{ModifierKind}
use Rattle.java_member_grammar.specs.declared.modifiers.ModifierKind.TheVariants as modifier
use Rattle.java_member_grammar.specs.declared.modifiers.JModifier.{JModifier}
use Rattle.java_member_grammar.specs.Reading.{modifier_by, modifiers}
use Rattle.java_member_parser.specs.Steps.{is_override, modifier_at}

abbrev Mods : Type 0
Mods = List JModifier × Tokens

abbrev one : ModifierKind → Position → JModifier
one kind at = record { kind = kind; at = at }

-- What stands first is kept where no modifier comes first, and is the rest behind one.
abbrev Steps : Tokens → Option (JModifier × Tokens) → Mods → Type 0
Steps ts None y = y ≡ ([], ts)
Steps ts (Some x) y = (y ≡ (x.0 ∷ (modifiers x.1).0, (modifiers x.1).1)) × (length x.1 < length ts)

word_steps : (o : Option ModifierKind) (at : Position) (ts rest : Tokens) → length rest < length ts
    → Steps ts (o >>= λ k. Some (one k at, rest)) (maybe o ([], ts) (λ k. (one k at ∷ (modifiers rest).0, (modifiers rest).1)))
word_steps None at ts rest h = refl
word_steps (Some k) at ts rest h = (refl, h)

override_steps : (b : Bool) (p at : Position) (ts rest : Tokens) → length rest < length ts
    → Steps ts (if b then Some (one (modifier.Override p) at, rest) else None) (if b then (one (modifier.Override p) at ∷ (modifiers rest).0, (modifiers rest).1) else ([], ts))
override_steps true p at ts rest h = (refl, h)
override_steps false p at ts rest h = refl

steps : (ts : Tokens) → Steps ts (modifier_at ts) (modifiers ts)
unfolding modifiers
steps [] = refl
steps (Token.Word word at ∷ rest) = word_steps (modifier_by word) at (Token.Word word at ∷ rest) rest (omega arith)
steps (Token.Sign mark.At at ∷ []) = refl
steps (Token.Sign mark.At at ∷ Token.Id n p ∷ rest) = override_steps (is_override n) p at (Token.Sign mark.At at ∷ Token.Id n p ∷ rest) rest (omega arith)
steps (Token.Sign mark.At at ∷ _ ∷ rest) = refl
steps (_ ∷ rest) = refl

by_step : (ts : Tokens) (o : Option (JModifier × Tokens)) (y : Mods) → Steps ts (modifier_at ts) y → modifier_at ts ≡ o → Steps ts o y
by_step ts o y s e = rw e at s

pub modifiers_end : (whole ts : Tokens) (xs : List JModifier) → modifiers whole ≡ (xs ++ (modifiers ts).0, (modifiers ts).1) → modifier_at ts ≡ None → (xs, ts) ≡ modifiers whole
modifiers_end whole ts xs e none =
    let s : modifiers ts ≡ ([], ts) = by_step ts None (modifiers ts) (steps ts) none in
    sym (e ∙ ap (λ (b : Mods). (xs ++ b.0, b.1)) s ∙ ap (λ ys. (ys, ts)) (append-nil xs))

pub modifiers_on : (whole ts rest : Tokens) (xs : List JModifier) (x : JModifier) → modifiers whole ≡ (xs ++ (modifiers ts).0, (modifiers ts).1) → modifier_at ts ≡ Some (x, rest)
    → modifiers whole ≡ ((xs ++ x ∷ []) ++ (modifiers rest).0, (modifiers rest).1)
modifiers_on whole ts rest xs x e some =
    let s = by_step ts (Some (x, rest)) (modifiers ts) (steps ts) some in
    e ∙ ap (λ (b : Mods). (xs ++ b.0, b.1)) s.0 ∙ ap (λ ys. (ys, (modifiers rest).1)) (sym (append_assoc xs (x ∷ []) (modifiers rest).0))

pub modifier_shorter : (ts : Tokens) (x : JModifier) (rest : Tokens) → modifier_at ts ≡ Some (x, rest) → length rest < length ts
modifier_shorter ts x rest e = (by_step ts (Some (x, rest)) (modifiers ts) (steps ts) e).1

pub ruleset modified = (modifier_shorter)
