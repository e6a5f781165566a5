-- Heads, a piece at a time.
use Rattle.std.proofs.Common.{◌≡◌, ◌≤◌, ◌+◌, ◌-◌, ℕ, zero, suc, Bool, true, false, List, [], ◌∷◌, ◌++◌, length, map, take, drop, Option, Some, None, refl, ap, sym, subst, ◌∙◌, arith, append_assoc, append-nil}
use Rattle.std.specs.Borrow.{Bor}
use Rattle.std.proofs.lemmas.List.{map-append}
use Rattle.java_tree.specs.declared.tokens.Mark.TheVariants as m
use Rattle.java_tree.specs.declared.tokens.Position.{Position}
use Rattle.java_tree.specs.declared.exprs.Span.{Span}
use Rattle.java_tree.specs.Seen.{Token, Tokens, body, joins}
use Rattle.java_expr_grammar.specs.Reading.{◌>>=◌, maybe}
use Rattle.java_token_cursor.specs.declared.piece.Piece.{Piece}
use Rattle.java_token_cursor.specs.Shown.{shown, piece_shown}
use Rattle.java_token_cursor.proofs.LawsToCite.{piece_shorter, shown_none, shown_more}
use Rattle.java_type_parser.proofs.LawsToCite.{length_shown}
use Rattle.java_unit_grammar.specs.Cutting as c
use Rattle.java_body_cuts.specs.Cuts.{all_shown, before, cut_from, inside_shown}

-- ---- how long what is left is

body_within : (end : ℕ) (ts : Tokens) (b : Span × Tokens) → body end ts ≡ Some b → length b.1 ≤ length ts
body_within end ts b e =
    subst (λ (o : Option (Span × Tokens)). length (joins (Token.ArrowBody b.0.opens) (Token.Sign m.Arrow b.0.opens) ts o).1 ≤ length ts) e (piece_shorter end (Token.Sign m.Arrow b.0.opens) ts)

behind_within : (x : Token) (end : ℕ) (ts : Tokens) (b : Span × Tokens) → c.behind x end ts ≡ Some b → length b.1 ≤ length ts
behind_within (Token.Sign m.Arrow at) end ts b e = body_within end ts b e
behind_within (Token.Sign m.CloseRound at) end ts b e = body_within end ts b e
behind_within (_) end ts b e = absurd (cc e)

-- ---- steps enough

step_same : (x : Token) (ts : Tokens) (o : Option (Span × Tokens)) (f g : Tokens → Option c.Cut) → f ts ≡ g ts → ((b : Span × Tokens) → o ≡ Some b → f b.1 ≡ g b.1)
    → c.cut_step x ts o f ≡ c.cut_step x ts o g
step_same x ts None f g e h = rw e refl
step_same x ts (Some b) f g e h = rw (h b refl) refl

turn_same : (o : Option ℕ) (ends : Option c.Cut) (f g : ℕ → Option c.Cut) → ((k : ℕ) → f k ≡ g k) → maybe o ends f ≡ maybe o ends g
turn_same None ends f g h = refl
turn_same (Some k) ends f g h = h k

enough : (f g : ℕ) (stop : c.Stop) (end n : ℕ) (ts : Tokens) → length ts ≤ f → length ts ≤ g → c.cut_by stop f end n ts ≡ c.cut_by stop g end n ts
unfolding c.cut_by
enough zero zero stop end n ts p q = refl
enough zero (suc g) stop end n [] p q = refl
enough (suc f) zero stop end n [] p q = refl
enough (suc f) (suc g) stop end n [] p q = refl
enough zero g stop end n (x ∷ ts) p q = absurd (omega (arith, p))
enough (suc f) zero stop end n (x ∷ ts) p q = absurd (omega (arith, q))
enough (suc f) (suc g) stop end n (x ∷ ts) p q =
    turn_same (c.turn (c.token_weight x stop) n) (Some (record { text = []; bodies = []; rest = x ∷ ts }))
    (λ k. c.cut_raw (c.is_raw x) (c.cut_step x ts (c.behind x end ts) (c.cut_by stop f end k)))
    (λ k. c.cut_raw (c.is_raw x) (c.cut_step x ts (c.behind x end ts) (c.cut_by stop g end k)))
    (λ k. ap (c.cut_raw (c.is_raw x)) (step_same x ts (c.behind x end ts) (c.cut_by stop f end k) (c.cut_by stop g end k)
    (enough f g stop end k ts (omega (arith, p)) (omega (arith, q)))
    (λ b e. let w = behind_within x end ts b e in enough f g stop end k b.1 (omega (arith, p, w)) (omega (arith, q, w)))))

-- ---- a step

pub cut_none : (stop : c.Stop) (end n : ℕ) → cut_from stop end n [] ≡ None
unfolding cut_from c.cut_by
cut_none stop end n = refl

pub cut_ends : (stop : c.Stop) (end n : ℕ) (x : Token) (ts : Tokens) → None ≡ c.turn (c.token_weight x stop) n
    → cut_from stop end n (x ∷ ts) ≡ Some (record { text = []; bodies = []; rest = x ∷ ts })
unfolding cut_from c.cut_by
cut_ends stop end n x ts e = rw (sym e) refl

pub cut_crude : (stop : c.Stop) (end n k : ℕ) (x : Token) (ts : Tokens) → Some k ≡ c.turn (c.token_weight x stop) n → false ≡ c.is_raw x
    → cut_from stop end n (x ∷ ts) ≡ None
unfolding cut_from c.cut_by
cut_crude stop end n k x ts e crude = rw (sym e, sym crude) refl

plain : (x : Token) (o : Option c.Cut) → (o >>= λ y. Some (record { text = x ∷ y.text; bodies = y.bodies; rest = y.rest })) ≡ before (x ∷ []) [] o
plain x None = refl
plain x (Some y) = refl

bodied : (x : Token) (inside : Tokens) (o : Option c.Cut) → (o >>= λ y. Some (record { text = x ∷ y.text; bodies = inside ∷ y.bodies; rest = y.rest })) ≡ before (x ∷ []) (inside ∷ []) o
bodied x inside None = refl
bodied x inside (Some y) = refl

pub cut_plain : (stop : c.Stop) (end n k : ℕ) (x : Token) (ts : Tokens) → Some k ≡ c.turn (c.token_weight x stop) n → true ≡ c.is_raw x → c.behind x end ts ≡ None
    → cut_from stop end n (x ∷ ts) ≡ before (x ∷ []) [] (cut_from stop end k ts)
unfolding cut_from c.cut_by
cut_plain stop end n k x ts e crude none = rw (sym e, sym crude, none) (plain x (c.cut_by stop (length ts) end k ts))

pub cut_bodied : (stop : c.Stop) (end n k : ℕ) (x y : Token) (span : Span) (ts rest inside : Tokens) → Some k ≡ c.turn (c.token_weight x stop) n → true ≡ c.is_raw x
    → c.behind x end ts ≡ Some (span, rest) → c.with_span x span ≡ y → inside ≡ take (span.to - span.from) (drop 1 ts)
    → cut_from stop end n (x ∷ ts) ≡ before (y ∷ []) (inside ∷ []) (cut_from stop end k rest)
unfolding cut_from c.cut_by
cut_bodied stop end n k x y span ts rest inside e crude some with_ part =
    let w = behind_within x end ts (span, rest) some in
    let same = enough (length ts) (length rest) stop end k rest w (omega arith) in
    rw (sym e, sym crude, some, ← with_, part)
    (bodied (c.with_span x span) (take (span.to - span.from) (drop 1 ts)) (c.cut_by stop (length ts) end k rest)
    ∙ ap (before (c.with_span x span ∷ []) (take (span.to - span.from) (drop 1 ts) ∷ [])) same)

pub turn_within : (w : c.Weight) (n k : ℕ) → Some k ≡ c.turn w n → k ≤ n + 1
turn_within c.Weight.Opens n k e = let h : k ≡ suc n = cc in omega (arith, h)
turn_within c.Weight.Closes zero k e = absurd (cc e)
turn_within c.Weight.Closes (suc n) k e = let h : k ≡ n = cc in omega (arith, h)
turn_within c.Weight.Other n k e = let h : k ≡ n = cc in omega (arith, h)

-- ---- steps one behind another

pub before_none : (o : Option c.Cut) → before [] [] o ≡ o
before_none None = refl
before_none (Some x) = refl

pub before_more : (xs ys : Tokens) (us vs : List Tokens) (o : Option c.Cut) → before xs us (before ys vs o) ≡ before (xs ++ ys) (us ++ vs) o
before_more xs ys us vs None = refl
before_more xs ys us vs (Some x) = rw (append_assoc xs ys x.text, append_assoc us vs x.bodies) refl

pub all_none : all_shown [] ≡ []
all_none = refl

pub all_more : (xs : List (Bor (List Piece))) (x : Bor (List Piece)) → all_shown (xs ++ x ∷ []) ≡ all_shown xs ++ shown x.now ∷ []
all_more xs x = map-append (λ (y : Bor (List Piece)). shown y.now) xs (x ∷ [])

pub cut_is : (stop : c.Stop) (ts : Tokens) → c.cut stop ts ≡ cut_from stop (length ts) 0 ts
unfolding cut_from
cut_is stop ts = refl

pub left_none : (stop : c.Stop) (end n : ℕ) (xs : List Piece) → length xs ≡ 0 → cut_from stop end n (shown xs) ≡ None
unfolding shown
left_none stop end n [] e = cut_none stop end n
left_none stop end n (x ∷ xs) e = absurd (cc e)

pub cut_done : (stop : c.Stop) (end n : ℕ) (ts rest xs : Tokens) (us : List Tokens) → end ≡ length ts → cut_from stop end 0 ts ≡ before xs us (cut_from stop end n rest)
    → cut_from stop end n rest ≡ Some (record { text = []; bodies = []; rest = rest }) → c.cut stop ts ≡ Some (record { text = xs; bodies = us; rest = rest })
cut_done stop end n ts rest xs us whole same ends =
    cut_is stop ts ∙ ap (λ k. cut_from stop k 0 ts) (sym whole) ∙ same ∙ ap (before xs us) ends
    ∙ ap (λ (l : Tokens). Some (record { text = l; bodies = us ++ []; rest = rest })) (append-nil xs)
    ∙ ap (λ (l : List Tokens). Some (record { text = xs; bodies = l; rest = rest })) (append-nil us)

pub ruleset steps = (cut_none, cut_ends, cut_crude, cut_plain, cut_bodied, length_shown)

pub ruleset gathered = (all_none, all_more, append-nil)

pub ruleset cuts = (cut_is, before_none, before_more, shown_none, shown_more, all_none, left_none, length_shown)
