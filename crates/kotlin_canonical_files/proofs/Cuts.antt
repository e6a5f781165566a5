-- A class is a piece of its own: the tokens that spell it end with the `}` behind which no bracket is open, and hold no other.
use Rattle.std.proofs.Common.{◌≡◌, ℕ, zero, suc, Bool, true, false, List, [], ◌∷◌, ◌++◌, Some, refl, ap, sym, subst, ◌∙◌, append_assoc, arith}
use Rattle.std.proofs.lemmas.Bool.Decides.{nat_tests}
use Rattle.std.proofs.lemmas.List.{append-nil}
use Rattle.std.specs.Prelude.{⊤, if◌then◌else◌, nat_eq, ◌-◌}
use Rattle.grammar.specs.declared.symbols.Symbol.TheVariants as y
use Rattle.grammar.specs.Grammar.{Derives}
use Rattle.kotlin_tree.specs.declared.tokens.Mark.TheVariants as m
use Rattle.kotlin_tree.specs.declared.tokens.TokenKind.{TokenKind}
use Rattle.kotlin_tree.specs.declared.tokens.TokenKind.TheVariants as q
use Rattle.kotlin_tree.specs.declared.files.KClass.{KClass}
use Rattle.kotlin_grammar.specs.declared.letters.Kind.TheVariants as k
use Rattle.kotlin_grammar.specs.declared.letters.Term.{Term}
use Rattle.kotlin_grammar.specs.declared.letters.Form.TheVariants as f
use Rattle.kotlin_grammar.specs.declared.built.Built.{Built}
use Rattle.kotlin_grammar.specs.declared.ahead.Letter.{Letter}
use Rattle.kotlin_grammar.specs.Table.{Symbols, written, accepts, is_end}
use Rattle.kotlin_grammar.specs.Ahead.{Letters, letters}
use Rattle.kotlin_grammar.specs.Taking.{takes}
use Rattle.kotlin_grammar.specs.Meaning.{taken}
use Rattle.kotlin_grammar.specs.Reading.{profile, start, SpellsClass}
use Rattle.kotlin_grammar.specs.Files.{Tokens, pieces, open_behind, ends_piece}
use Rattle.kotlin_canonical_files.proofs.Sides.{Side, token_side, term_side, sides, token_sides, token_taken, end_taken, letters_sides}
use Rattle.kotlin_canonical_files.proofs.Paired.{Spot, after, walk, way_walk}

-- the sides of a piece from a spot to its end
unfoldable pub Ends : Spot → List Side → Type 0
Ends Spot.Past [] = ⊤
Ends Spot.Past (x ∷ xs) = ⊥
Ends (Spot.Inside n) [] = ⊥
Ends (Spot.Inside n) (x ∷ xs) = Ends (after x n) xs

term_ends : (e g : Bool) (c : Term) (n : ℕ) (s : Symbols) (b : Built) (l : Letter) (ls : Letters) (x : Built × Letters) → is_end c ≡ e → accepts c k.Broken ≡ g
    → (if e then walk (Spot.Inside n) s else (if g then false else walk (after (term_side c) n) s)) ≡ true
    → takes taken c b (l ∷ ls) ≡ Some x → ((u : Spot) → walk u s ≡ true → Ends u (sides x.1)) → Ends (Spot.Inside n) (sides (l ∷ ls))
unfolding Ends
term_ends true g c n s b l ls x is free may has more = subst (Ends (Spot.Inside n)) (end_taken c b l ls x is has) (more (Spot.Inside n) may)
term_ends false true c n s b l ls x is free may has more = absurd (cc may)
term_ends false false c n s b l ls x is free may has more =
    let z = token_taken c b l ls x is free has in
    subst (λ v. Ends (after v n) (sides ls)) (sym z.0) (subst (Ends (after (term_side c) n)) z.1 (more (after (term_side c) n) may))

nothing_left : (u : Spot) (ls : Letters) → walk u [] ≡ true → ls ≡ [] → Ends u (sides ls)
unfolding walk Ends
nothing_left (Spot.Inside n) ls is none = absurd (cc is)
nothing_left Spot.Past ls is none = subst (λ z. Ends Spot.Past (sides z)) (sym none) tt

derived_ends : (d : ℕ) (u : Spot) (s : Symbols) (b : Built) (ls : Letters) (new : Built) → walk u s ≡ true → Derives profile d s b ls new → Ends u (sides ls)
unfolding Derives walk takes
derived_ends zero u s b ls new is has = absurd has
derived_ends (suc d) u [] b ls new is has = nothing_left u ls is has.1
derived_ends (suc d) Spot.Past (y.Term c ∷ s) b ls new is has = absurd (cc is)
derived_ends (suc d) (Spot.Inside n) (y.Term c ∷ s) b [] new is has = absurd (cc has.1)
derived_ends (suc d) (Spot.Inside n) (y.Term c ∷ s) b (l ∷ ls) new is has =
    term_ends (is_end c) (accepts c k.Broken) c n s b l ls has.0 refl refl is has.1 (λ u may. derived_ends d u s has.0.0 has.0.1 new may has.2)
derived_ends (suc d) u (y.Act a ∷ s) b ls new is has = derived_ends d u s has.0 ls new is has.2
derived_ends (suc d) u (y.Form n ∷ s) b ls new is has =
    derived_ends d u (written has.0 ++ s) b ls new (way_walk has.0 u s (subst (λ z. walk u (y.Form z ∷ s) ≡ true) (sym has.1) is)) has.2

-- ---- pieces

closed_spot : (n : ℕ) → after Side.Closes n ≡ Spot.Inside (n - 1)
closed_spot zero = refl
closed_spot (suc n) = ap Spot.Inside (omega arith)

curly_spot : (n : ℕ) → after Side.ClosesCurly n ≡ (if nat_eq (n - 1) 0 then Spot.Past else Spot.Inside (n - 1))
curly_spot zero = refl
curly_spot (suc zero) = refl
curly_spot (suc (suc n)) =
    let same : suc n ≡ suc (suc n) - 1 = omega arith in
    let more : nat_eq (suc n) 0 ≡ false = grind (arith, nat_tests) in
    subst (λ z. Spot.Inside (suc n) ≡ (if nat_eq z 0 then Spot.Past else Spot.Inside z)) same (ap (λ b. if b then Spot.Past else Spot.Inside (suc n)) (sym more))

-- where one is behind a token
spot_behind : (n : ℕ) (x : TokenKind) → after (token_side x) n ≡ (if ends_piece n x then Spot.Past else Spot.Inside (open_behind n x))
spot_behind n (q.Mark m.OpenRound) = refl
spot_behind n (q.Mark m.OpenSquare) = refl
spot_behind n (q.Mark m.OpenCurly) = refl
spot_behind n (q.Mark m.CloseRound) = closed_spot n
spot_behind n (q.Mark m.CloseSquare) = closed_spot n
spot_behind n (q.Mark m.CloseCurly) = curly_spot n
spot_behind n (q.Mark m.Comma) = refl
spot_behind n (q.Mark m.Dot) = refl
spot_behind n (q.Mark m.At) = refl
spot_behind n (q.Mark m.Question) = refl
spot_behind n (q.Mark m.Colon) = refl
spot_behind n (q.Mark m.DoubleColon) = refl
spot_behind n (q.Mark m.Assign) = refl
spot_behind n (q.Mark m.Equal) = refl
spot_behind n (q.Mark m.Identical) = refl
spot_behind n (q.Mark m.Not) = refl
spot_behind n (q.Mark m.NotNull) = refl
spot_behind n (q.Mark m.NotEqual) = refl
spot_behind n (q.Mark m.NotIdentical) = refl
spot_behind n (q.Mark m.Plus) = refl
spot_behind n (q.Mark m.PlusPlus) = refl
spot_behind n (q.Mark m.Minus) = refl
spot_behind n (q.Mark m.MinusMinus) = refl
spot_behind n (q.Mark m.Arrow) = refl
spot_behind n (q.Mark m.Star) = refl
spot_behind n (q.Mark m.Slash) = refl
spot_behind n (q.Mark m.Percent) = refl
spot_behind n (q.Mark m.AndAnd) = refl
spot_behind n (q.Mark m.OrOr) = refl
spot_behind n (q.Mark m.Less) = refl
spot_behind n (q.Mark m.LessEqual) = refl
spot_behind n (q.Mark m.Greater) = refl
spot_behind n (q.Mark m.GreaterEqual) = refl
spot_behind n (q.Keyword x) = refl
spot_behind n (q.Word x) = refl
spot_behind n (q.Name x) = refl
spot_behind n (q.Integer x) = refl
spot_behind n (q.Long x) = refl
spot_behind n (q.Character x) = refl
spot_behind n (q.Text x) = refl
spot_behind n q.End = refl

past_none : (ts : Tokens) → Ends Spot.Past (token_sides ts) → ts ≡ []
unfolding Ends
past_none [] has = refl
past_none (t ∷ ts) has = absurd has

cut_by : (e : Bool) (n : ℕ) (p : Tokens) (ts zs : Tokens) → Ends (if e then Spot.Past else Spot.Inside n) (token_sides ts)
    → ((p : Tokens) → Ends (Spot.Inside n) (token_sides ts) → pieces n p (ts ++ zs) ≡ (p ++ ts) ∷ pieces 0 [] zs)
    → (if e then p ∷ pieces 0 [] (ts ++ zs) else pieces n p (ts ++ zs)) ≡ (p ++ ts) ∷ pieces 0 [] zs
cut_by true n p ts zs has more = subst (λ z. p ∷ pieces 0 [] (z ++ zs) ≡ (p ++ z) ∷ pieces 0 [] zs) (sym (past_none ts has)) (ap (λ z. z ∷ pieces 0 [] zs) (sym (append-nil p)))
cut_by false n p ts zs has more = more p has

pub piece_ends : (n : ℕ) (p ts zs : Tokens) → Ends (Spot.Inside n) (token_sides ts) → pieces n p (ts ++ zs) ≡ (p ++ ts) ∷ pieces 0 [] zs
unfolding Ends pieces
piece_ends n p [] zs has = absurd has
piece_ends n p (t ∷ ts) zs has =
    cut_by (ends_piece n t.kind) (open_behind n t.kind) (p ++ t ∷ []) ts zs
    (subst (λ z. Ends z (token_sides ts)) (spot_behind n t.kind) has)
    (λ i more. piece_ends (open_behind n t.kind) i ts zs more)
    ∙ ap (λ z. z ∷ pieces 0 [] zs) (append_assoc p (t ∷ []) ts)

pub class_ends : (c : KClass) (ts : Tokens) → SpellsClass c ts → Ends (Spot.Inside 0) (token_sides ts)
unfolding walk
class_ends c ts has = subst (Ends (Spot.Inside 0)) (letters_sides ts) (derived_ends has.makes.steps (Spot.Inside 0) (start f.ClassForm) _ (letters ts) has.built refl has.makes.derives)

-- behind the tokens of a class a piece ends, and nowhere before
pub class_cut : (c : KClass) (p ts zs : Tokens) → SpellsClass c ts → pieces 0 p (ts ++ zs) ≡ (p ++ ts) ∷ pieces 0 [] zs
class_cut c p ts zs has = piece_ends 0 p ts zs (class_ends c ts has)

-- a class has tokens
pub class_is_some : (c : KClass) → SpellsClass c [] → ⊥
unfolding Ends
class_is_some c has = class_ends c [] has
