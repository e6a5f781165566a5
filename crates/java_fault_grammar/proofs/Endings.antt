-- What stands at the end of a run, and behind it.
use Rattle.std.proofs.Common.{◌≡◌, ◌⊎◌, ℕ, zero, suc, Bool, true, false, List, [], ◌∷◌, ◌++◌, map, Option, Some, None, inl, inr, refl, ap, sym, ◌∙◌, subst}
use Rattle.std.proofs.lemmas.List.{append_cancel_left}
use Rattle.java_tree.specs.declared.tokens.Position.{Position}
use Rattle.java_tree.specs.declared.tokens.Mark.TheVariants as m
use Rattle.java_tree.specs.Seen.{Token, Tokens}
use Rattle.java_tree.specs.Trees.{tokens, listed, more_tokens, trailing}
use Rattle.java_member_grammar.specs.declared.lines.JArguments.{JArguments}
use Rattle.java_member_grammar.specs.declared.lines.JConstant.{JConstant}
use Rattle.java_member_grammar.specs.declared.lines.JConstants.{JConstants}
use Rattle.java_member_grammar.specs.Heads.{arguments_tokens, constant_tokens, end_tokens, constants_tokens}
use Rattle.java_unit_grammar.specs.Tokens.{filled}
use Rattle.java_fault_grammar.specs.Runs.{End, Run, Kind, kind, Place, Turn, outside, turned_by, turned, run_turn, run_from}
use Rattle.java_fault_grammar.specs.Runs as runs

-- ---- whether tokens end with none that ends a run

abbrev pub fine_kind : Kind → Bool
fine_kind Kind.OpenCurly = false
fine_kind Kind.CloseCurly = false
fine_kind Kind.Semicolon = false
fine_kind _ = true

abbrev pub fine : Token → Bool
fine (Token.ArrowBody at span) = false
fine (Token.CloseBody at span) = false
fine x = fine_kind (kind x)

abbrev pub ends : Bool → Tokens → Bool
ends b [] = b
ends b (x ∷ ts) = ends (fine x) ts

ends_append : (b : Bool) (xs ys : Tokens) → ends b (xs ++ ys) ≡ ends (ends b xs) ys
ends_append b [] ys = refl
ends_append b (x ∷ xs) ys = ends_append (fine x) xs ys

fine_by : (x : Token) → fine_kind (kind x) ≡ false → fine x ≡ false
fine_by (Token.Sign mark at) h = h
fine_by (Token.Word word at) h = h
fine_by (Token.Id n at) h = h
fine_by (Token.Literal literal at) h = h
fine_by (Token.ArrowBody at span) h = refl
fine_by (Token.CloseBody at span) h = refl

pub filled_ends : (b : Bool) (ts : Tokens) (bodies : List Tokens) → ends b ts ≡ true → ends b (filled ts bodies) ≡ true
filled_ends b [] bodies h = h
filled_ends b (Token.ArrowBody at span ∷ ts) [] h = filled_ends false ts [] h
filled_ends b (Token.ArrowBody at span ∷ ts) (body ∷ bodies) h =
    ends_append false body (Token.Sign m.CloseCurly span.closes ∷ filled ts bodies) ∙ filled_ends false ts bodies h
filled_ends b (Token.CloseBody at span ∷ ts) [] h = filled_ends false ts [] h
filled_ends b (Token.CloseBody at span ∷ ts) (body ∷ bodies) h =
    ends_append false body (Token.Sign m.CloseCurly span.closes ∷ filled ts bodies) ∙ filled_ends false ts bodies h
filled_ends b (Token.Sign mark at ∷ ts) bodies h = filled_ends (fine (Token.Sign mark at)) ts bodies h
filled_ends b (Token.Word word at ∷ ts) bodies h = filled_ends (fine (Token.Word word at)) ts bodies h
filled_ends b (Token.Id n at ∷ ts) bodies h = filled_ends true ts bodies h
filled_ends b (Token.Literal literal at ∷ ts) bodies h = filled_ends true ts bodies h

-- ---- the constants of an enum

arguments_end : (x : Option JArguments) → ends true (arguments_tokens x) ≡ true
arguments_end None = refl
arguments_end (Some x) = ends_append true (listed x.commas (map tokens x.items)) (Token.Sign m.CloseRound x.closes ∷ [])

more_end : (ps : List Position) (xs : List JConstant) → ends true (more_tokens ps (map constant_tokens xs)) ≡ true
more_end [] xs = refl
more_end (p ∷ ps) [] = refl
more_end (p ∷ ps) (x ∷ xs) =
    let rest : Tokens = more_tokens ps (map constant_tokens xs) in
    ends_append true (constant_tokens x) rest ∙ (ap (λ b. ends b rest) (arguments_end x.arguments) ∙ more_end ps xs)

listed_end : (ps : List Position) (xs : List JConstant) → ends true (listed ps (map constant_tokens xs)) ≡ true
listed_end ps [] = refl
listed_end ps (x ∷ xs) =
    let rest : Tokens = more_tokens ps (map constant_tokens xs) in
    ends_append true (constant_tokens x) rest ∙ (ap (λ b. ends b rest) (arguments_end x.arguments) ∙ more_end ps xs)

trailing_end : (x : Option Position) → ends true (trailing x ++ []) ≡ true
trailing_end None = refl
trailing_end (Some at) = refl

constants_end : (x : JConstants) → x.end ≡ None → ends true (constants_tokens x) ≡ true
constants_end x h =
    let items : Tokens = listed x.commas (map constant_tokens x.items) in
    let P : Option Position → Type 0 = λ e. ends true (items ++ (trailing x.more ++ end_tokens e)) ≡ true in
    subst P (sym h) (ends_append true items (trailing x.more ++ []) ∙ (ap (λ b. ends b (trailing x.more ++ [])) (listed_end x.commas x.items) ∙ trailing_end x.more))

-- ---- runs

pub run_whole : (p : Place) (ts : Tokens) → ts ≡ (run_from p ts).text ++ (run_from p ts).rest
unfolding run_from
run_whole p [] = refl
run_whole p (x ∷ ts) = go (turned p (kind x)) (λ q. run_whole q ts)
  where
    go : (t : Turn) → ((q : Place) → ts ≡ (run_from q ts).text ++ (run_from q ts).rest)
        → x ∷ ts ≡ (run_turn x ts t (λ q. run_from q ts)).text ++ (run_turn x ts t (λ q. run_from q ts)).rest
    go (Turn.On q) ih = ap (λ (l : Tokens). x ∷ l) (ih q)
    go (Turn.Stop end) ih = refl
    go Turn.Left ih = refl

stop_kind : (n : ℕ) (e t v : Bool) (k : Kind) (end : End) → turned_by n e t v k ≡ Turn.Stop end → fine_kind k ≡ false
stop_kind n e t v Kind.OpenCurly end h = refl
stop_kind n e t v Kind.CloseCurly end h = refl
stop_kind n e t v Kind.Semicolon end h = refl
stop_kind zero e t v Kind.Opens end h = absurd (cc h)
stop_kind zero e t v Kind.Closes end h = absurd (cc h)
stop_kind zero e t v Kind.Assign end h = absurd (cc h)
stop_kind zero e t false Kind.Declares end h = absurd (cc h)
stop_kind zero e t true Kind.Declares end h = absurd (cc h)
stop_kind zero e t v Kind.Other end h = absurd (cc h)
stop_kind (suc n) e t v Kind.Opens end h = absurd (cc h)
stop_kind (suc n) e t v Kind.Closes end h = absurd (cc h)
stop_kind (suc n) e t v Kind.Assign end h = absurd (cc h)
stop_kind (suc n) e t v Kind.Declares end h = absurd (cc h)
stop_kind (suc n) e t v Kind.Other end h = absurd (cc h)

abbrev pub closes : Kind → Bool
closes Kind.CloseCurly = true
closes Kind.Closes = true
closes _ = false

-- whether a level ends here
abbrev pub at_level : Tokens → Bool
at_level [] = true
at_level (x ∷ ts) = closes (kind x)

left_kind : (n : ℕ) (e t v : Bool) (k : Kind) → turned_by n e t v k ≡ Turn.Left → closes k ≡ true
left_kind n e t v Kind.CloseCurly h = refl
left_kind n e t v Kind.Closes h = refl
left_kind zero e false v Kind.OpenCurly h = absurd (cc h)
left_kind zero e true v Kind.OpenCurly h = absurd (cc h)
left_kind zero e t v Kind.Opens h = absurd (cc h)
left_kind zero e t v Kind.Semicolon h = absurd (cc h)
left_kind zero e t v Kind.Assign h = absurd (cc h)
left_kind zero e t false Kind.Declares h = absurd (cc h)
left_kind zero e t true Kind.Declares h = absurd (cc h)
left_kind zero e t v Kind.Other h = absurd (cc h)
left_kind (suc n) e t v Kind.OpenCurly h = absurd (cc h)
left_kind (suc n) e t v Kind.Opens h = absurd (cc h)
left_kind (suc n) e t v Kind.Semicolon h = absurd (cc h)
left_kind (suc n) e t v Kind.Assign h = absurd (cc h)
left_kind (suc n) e t v Kind.Declares h = absurd (cc h)
left_kind (suc n) e t v Kind.Other h = absurd (cc h)

abbrev Ended : Run → Type 0
Ended r = (at_level r.rest ≡ true) ⊎ ((b : Bool) → ends b r.text ≡ false)

run_ended : (p : Place) (ts : Tokens) → Ended (run_from p ts)
unfolding run_from
run_ended p [] = inl refl
run_ended p (x ∷ ts) = go (turned p (kind x)) refl (λ q. run_ended q ts)
  where
    go : (t : Turn) → turned p (kind x) ≡ t → ((q : Place) → Ended (run_from q ts)) → Ended (run_turn x ts t (λ q. run_from q ts))
    go (Turn.On q) e ih = elim (ih q) [ inl h ↦ inl h | inr h ↦ inr (λ b. h (fine x)) ]
    go (Turn.Stop end) e ih = inr (λ b. fine_by x (stop_kind p.depth p.ends p.is_type p.has_value (kind x) end e))
    go Turn.Left e ih = inl (left_kind p.depth p.ends p.is_type p.has_value (kind x) e)

left_start : (k : Kind) → closes k ≡ true → outside false false k ≡ Turn.Left
left_start Kind.CloseCurly h = refl
left_start Kind.Closes h = refl
left_start Kind.OpenCurly h = absurd (cc h)
left_start Kind.Opens h = absurd (cc h)
left_start Kind.Semicolon h = absurd (cc h)
left_start Kind.Assign h = absurd (cc h)
left_start Kind.Declares h = absurd (cc h)
left_start Kind.Other h = absurd (cc h)

-- At the end of a level the run is empty.
pub level_empty : (ts : Tokens) → at_level ts ≡ true → (runs.run ts).text ≡ []
unfolding run_from
level_empty [] h = refl
level_empty (x ∷ ts) h = ap (λ (t : Turn). (run_turn x ts t (λ q. run_from q ts)).text) (left_start (kind x) h)

-- Behind constants with no `;` that are a whole run the level ends.
pub constants_level : (x : JConstants) (bodies : List Tokens) (ts rest : Tokens) → x.end ≡ None → (runs.run ts).text ≡ filled (constants_tokens x) bodies
    → ts ≡ filled (constants_tokens x) bodies ++ rest → at_level rest ≡ true
constants_level x bodies ts rest none whole same =
    let text : Tokens = filled (constants_tokens x) bodies in
    let last : ends true text ≡ true = filled_ends true (constants_tokens x) bodies (constants_end x none) in
    let r : Run = runs.run ts in
    let behind : r.rest ≡ rest = append_cancel_left text r.rest rest (ap (λ (l : Tokens). l ++ r.rest) (sym whole) ∙ (sym (run_whole runs.start ts) ∙ same)) in
    elim (run_ended runs.start ts) [
      | inl h ↦ ap at_level (sym behind) ∙ h
      | inr h ↦ let bad : ends true text ≡ false = ap (ends true) (sym whole) ∙ h true in absurd (cc (last, bad))
    ]
