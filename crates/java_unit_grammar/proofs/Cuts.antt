-- What is cut off: the head with its bodies; and a head is cut off before what ends it.
use Rattle.std.proofs.Common.{◌≡◌, ◌≤◌, ◌+◌, ◌-◌, ℕ, zero, suc, Bool, true, false, ◌&&◌, List, [], ◌∷◌, ◌++◌, length, map, take, drop, Option, Some, None, inl, inr, refl, ap, sym, ◌∙◌, subst, append_assoc, arith}
use Rattle.std.proofs.lemmas.List.{length-append}
use Rattle.std.proofs.Math.Seq.{take-append_seam}
use Rattle.java_tree.specs.declared.tokens.Position.{Position}
use Rattle.java_tree.specs.declared.tokens.Mark.{Mark}
use Rattle.java_tree.specs.declared.tokens.Mark.TheVariants as m
use Rattle.java_tree.specs.declared.exprs.Span.{Span}
use Rattle.java_tree.specs.Seen.{Token, Tokens, from_closing, body, body_by, joins, piece, pieces}
use Rattle.java_expr_grammar.specs.Reading.{◌>>=◌}
use Rattle.java_expr_grammar.proofs.LawsToCite.{bind_some, maybe_is, some_same}
use Rattle.java_token_cursor.proofs.LawsToCite.{pieces_more, pieces_none}
use Rattle.java_unit_grammar.specs.Tokens.{filled}
use Rattle.java_unit_grammar.specs.Standing.{spans, counts}
use Rattle.java_unit_grammar.specs.Cutting.{Stop, Weight, token_weight, turn, is_raw, behind, with_span, Cut, cut_step, cut_raw, cut_by, cut}

-- ---- bodies

abbrev left : Position → Token
left at = Token.Sign m.OpenCurly at

abbrev right : Position → Token
right at = Token.Sign m.CloseCurly at

closed_part : (n : ℕ) (ts : Tokens) (c : Position) (rest : Tokens) → from_closing n ts ≡ right c ∷ rest
    → (mid : Tokens) × (ts ≡ mid ++ right c ∷ rest) × ((z : Tokens) → from_closing n (mid ++ right c ∷ z) ≡ right c ∷ z)
unfolding from_closing
closed_part n [] c rest e = absurd (cc e)
closed_part n (Token.Sign m.OpenCurly at ∷ ts) c rest e = let i = closed_part (suc n) ts c rest e in (left at ∷ i.0, ap (λ (l : Tokens). left at ∷ l) i.1, i.2)
closed_part zero (Token.Sign m.CloseCurly at ∷ ts) c rest e = ([], e, λ z. refl)
closed_part (suc n) (Token.Sign m.CloseCurly at ∷ ts) c rest e = let i = closed_part n ts c rest e in (right at ∷ i.0, ap (λ (l : Tokens). right at ∷ l) i.1, i.2)
closed_part zero (x ∷ ts) c rest e = let i = closed_part zero ts c rest e in (x ∷ i.0, ap (λ (l : Tokens). x ∷ l) i.1, i.2)
closed_part (suc n) (x ∷ ts) c rest e = let i = closed_part (suc n) ts c rest e in (x ∷ i.0, ap (λ (l : Tokens). x ∷ l) i.1, i.2)

pub record Found (end : ℕ) (ts : Tokens) (span : Span) (rest : Tokens) : Type 0 where
  pub mid : Tokens
  pub is : ts ≡ left span.opens ∷ (mid ++ right span.closes ∷ rest)
  pub closes : (z : Tokens) → from_closing 0 (mid ++ right span.closes ∷ z) ≡ right span.closes ∷ z
  pub from : span.from ≡ end - (length mid + suc (length rest))
  pub to : span.to ≡ end - suc (length rest)

found_by : (end : ℕ) (opens : Position) (inside out : Tokens) (span : Span) (rest : Tokens) → from_closing 0 inside ≡ out
    → body_by end opens (length inside) out ≡ Some (span, rest) → Found end (left opens ∷ inside) span rest
found_by end opens inside (Token.Sign m.CloseCurly c ∷ r) span rest h e =
    let k = closed_part 0 inside c r h in
    let P : Span × Tokens → Type 0 = λ x. Found end (left opens ∷ inside) x.0 x.1 in
    let long : length inside ≡ length k.0 + suc (length r) = ap length k.1 ∙ length-append k.0 (right c ∷ r) in
    subst P (some_same e) (record {
      mid = k.0;
      is = ap (λ (l : Tokens). left opens ∷ l) k.1;
      closes = k.2;
      from = omega (arith, long);
      to = refl;
    })
found_by end opens inside _ span rest h e = absurd (cc e)

pub found : (end : ℕ) (ts : Tokens) (span : Span) (rest : Tokens) → body end ts ≡ Some (span, rest) → Found end ts span rest
found end (Token.Sign m.OpenCurly opens ∷ inside) span rest e = found_by end opens inside (from_closing 0 inside) span rest refl e
found end _ span rest e = absurd (cc e)

some_body : (end : ℕ) (opens closes : Position) (mid z : Tokens) → from_closing 0 (mid ++ right closes ∷ z) ≡ right closes ∷ z
    → body end (left opens ∷ (mid ++ right closes ∷ z))
    ≡ Some (record { opens = opens; from = end - length (mid ++ right closes ∷ z); to = end - suc (length z); closes = closes }, z)
some_body end opens closes mid z h = ap (λ (l : Tokens). body_by end opens (length (mid ++ right closes ∷ z)) l) h

-- the same body, counted from another end
body_is : (end e : ℕ) (span : Span) (mid rest z : Tokens) → ((z : Tokens) → from_closing 0 (mid ++ right span.closes ∷ z) ≡ right span.closes ∷ z)
    → span.from ≡ end - (length mid + suc (length rest)) → span.to ≡ end - suc (length rest) → length mid + suc (length rest) ≤ end → end + length z ≡ e + length rest
    → body e (left span.opens ∷ (mid ++ right span.closes ∷ z)) ≡ Some (span, z)
body_is end e span mid rest z closes from to within ends =
    let long = length-append mid (right span.closes ∷ z) in
    let f : e - length (mid ++ right span.closes ∷ z) ≡ span.from = omega (arith, long, from, within, ends) in
    let t : e - suc (length z) ≡ span.to = omega (arith, to, within, ends) in
    some_body e span.opens span.closes mid z (closes z)
    ∙ ap (λ (n : ℕ). Option.Some (record { opens = span.opens; from = n; to = e - suc (length z); closes = span.closes }, z)) f
    ∙ ap (λ (n : ℕ). Option.Some (record { opens = span.opens; from = span.from; to = n; closes = span.closes }, z)) t

front_by : (end e : ℕ) (a b : Tokens) (o : Option (Span × Tokens)) → body e a ≡ o → body end (a ++ b) ≡ None → o ≡ None
front_by end e a b None h none = refl
front_by end e a b (Some x) h none =
    let i = found e a x.0 x.1 h in
    let s = some_body end x.0.opens x.0.closes i.mid (x.1 ++ b) (i.closes (x.1 ++ b)) in
    let same : a ++ b ≡ left x.0.opens ∷ (i.mid ++ right x.0.closes ∷ (x.1 ++ b)) =
    ap (λ (l : Tokens). l ++ b) i.is ∙ ap (λ (l : Tokens). left x.0.opens ∷ l) (append_assoc i.mid (right x.0.closes ∷ x.1) b) in
    let other = sym (ap (body end) same ∙ s) ∙ none in
    absurd (cc other)

body_front : (end e : ℕ) (a b : Tokens) → body end (a ++ b) ≡ None → body e a ≡ None
body_front end e a b none = front_by end e a b (body e a) refl none

-- no body begins in what is left
none_front : (x : Token) (end e : ℕ) (a b : Tokens) → behind x end (a ++ b) ≡ None → behind x e a ≡ None
none_front (Token.Sign m.Arrow at) end e a b none = body_front end e a b none
none_front (Token.Sign m.CloseRound at) end e a b none = body_front end e a b none
none_front _ end e a b none = refl

abbrev pub begins_curly : Tokens → Bool
begins_curly (Token.Sign m.OpenCurly at ∷ ts) = true
begins_curly _ = false

no_body : (end : ℕ) (ts : Tokens) → begins_curly ts ≡ false → body end ts ≡ None
no_body end (Token.Sign m.OpenCurly at ∷ ts) h = absurd (cc h)
no_body end _ h = refl

abbrev pub joins_next : Token → Bool
joins_next (Token.Sign m.Arrow at) = true
joins_next (Token.Sign m.CloseRound at) = true
joins_next _ = false

no_behind : (x : Token) (end : ℕ) (ts : Tokens) → (joins_next x && begins_curly ts) ≡ false → behind x end ts ≡ None
no_behind (Token.Sign m.Arrow at) end ts h = no_body end ts h
no_behind (Token.Sign m.CloseRound at) end ts h = no_body end ts h
no_behind _ end ts h = refl

-- ---- pieces

abbrev piece_behind : Token → Tokens → Option (Span × Tokens) → Token × Tokens
piece_behind x ts None = (x, ts)
piece_behind x ts (Some b) = (with_span x b.0, b.1)

arrow_joins : (at : Position) (ts : Tokens) (o : Option (Span × Tokens)) → joins (Token.ArrowBody at) (Token.Sign m.Arrow at) ts o ≡ piece_behind (Token.Sign m.Arrow at) ts o
arrow_joins at ts None = refl
arrow_joins at ts (Some b) = refl

close_joins : (at : Position) (ts : Tokens) (o : Option (Span × Tokens)) → joins (Token.CloseBody at) (Token.Sign m.CloseRound at) ts o ≡ piece_behind (Token.Sign m.CloseRound at) ts o
close_joins at ts None = refl
close_joins at ts (Some b) = refl

piece_is : (e : ℕ) (x : Token) (ts : Tokens) → piece e x ts ≡ piece_behind x ts (behind x e ts)
piece_is e (Token.Sign m.Arrow at) ts = arrow_joins at ts (body e ts)
piece_is e (Token.Sign m.CloseRound at) ts = close_joins at ts (body e ts)
piece_is e _ ts = refl

pieces_by : (e : ℕ) (x : Token) (ts : Tokens) (o : Option (Span × Tokens)) → behind x e ts ≡ o → pieces e (x ∷ ts) ≡ (piece_behind x ts o).0 ∷ pieces e (piece_behind x ts o).1
pieces_by e x ts o h =
    let s : piece e x ts ≡ piece_behind x ts o = piece_is e x ts ∙ ap (piece_behind x ts) h in
    pieces_more e x ts ∙ ap (λ (p : Token × Tokens). p.0 ∷ pieces e p.1) s

-- ---- heads with their bodies

pub filled_raw : (x : Token) (ts : Tokens) (bs : List Tokens) → is_raw x ≡ true → filled (x ∷ ts) bs ≡ x ∷ filled ts bs
filled_raw (Token.ArrowBody at s) ts bs h = absurd (cc h)
filled_raw (Token.CloseBody at s) ts bs h = absurd (cc h)
filled_raw (Token.Sign mark at) ts bs h = refl
filled_raw (Token.Word word at) ts bs h = refl
filled_raw (Token.Id n at) ts bs h = refl
filled_raw (Token.Literal x at) ts bs h = refl

pub counts_raw : (x : Token) (ts : Tokens) → is_raw x ≡ true → counts (x ∷ ts) ≡ counts ts
counts_raw (Token.ArrowBody at s) ts h = absurd (cc h)
counts_raw (Token.CloseBody at s) ts h = absurd (cc h)
counts_raw (Token.Sign mark at) ts h = refl
counts_raw (Token.Word word at) ts h = refl
counts_raw (Token.Id n at) ts h = refl
counts_raw (Token.Literal x at) ts h = refl

-- a token before a body
pub record Joint (x : Token) (span : Span) : Type 0 where
  pub filled : (ts b : Tokens) (bs : List Tokens) → filled (with_span x span ∷ ts) (b ∷ bs) ≡ x ∷ left span.opens ∷ (b ++ right span.closes ∷ filled ts bs)
  pub counts : (ts : Tokens) → counts (with_span x span ∷ ts) ≡ (span.to - span.from) ∷ counts ts
  pub behind : (e : ℕ) (ts : Tokens) → behind x e ts ≡ body e ts
  pub raw : is_raw x ≡ true
  pub weight : (stop : Stop) → token_weight x stop ≡ token_weight (with_span x span) stop
  pub differs : x ≡ with_span x span → ⊥
  pub same : (other : Span) → with_span x other ≡ with_span x span → other ≡ span

arrow_joint : (at : Position) (span : Span) → Joint (Token.Sign m.Arrow at) span
arrow_joint at span = record { filled = λ ts b bs. refl; counts = λ ts. refl; behind = λ e ts. refl; raw = refl; weight = λ stop. refl; differs = λ h. cc h; same = λ other h. cc h }

close_joint : (at : Position) (span : Span) → Joint (Token.Sign m.CloseRound at) span
close_joint at span = record { filled = λ ts b bs. refl; counts = λ ts. refl; behind = λ e ts. refl; raw = refl; weight = λ stop. refl; differs = λ h. cc h; same = λ other h. cc h }

joint : (x : Token) (e : ℕ) (ts : Tokens) (b : Span × Tokens) → behind x e ts ≡ Some b → Joint x b.0
joint (Token.Sign m.Arrow at) e ts b h = arrow_joint at b.0
joint (Token.Sign m.CloseRound at) e ts b h = close_joint at b.0
joint _ e ts b h = absurd (cc h)

-- ---- what is cut off

pub record CutIs (end : ℕ) (ts : Tokens) (c : Cut) : Type 0 where
  pub same : ts ≡ filled c.text c.bodies ++ c.rest
  pub counted : map length c.bodies ≡ counts c.text
  pub numbered : (z more : Tokens) (e : ℕ) → c.rest ≡ z ++ more → end ≡ e + length more → pieces e (filled c.text c.bodies ++ z) ≡ c.text ++ pieces e z

raw_some : (b : Bool) (o : Option Cut) (c : Cut) → cut_raw b o ≡ Some c → (b ≡ true) × (o ≡ Some c)
raw_some true o c e = (refl, e)
raw_some false o c e = absurd (cc e)

step_none : (end : ℕ) (x : Token) (ts : Tokens) (c : Cut) → is_raw x ≡ true → behind x end ts ≡ None → CutIs end ts c
    → CutIs end (x ∷ ts) (record { text = x ∷ c.text; bodies = c.bodies; rest = c.rest })
step_none end x ts c raw none i =
    let f = filled_raw x c.text c.bodies raw in
    record {
      same = ap (λ (l : Tokens). x ∷ l) i.same ∙ ap (λ (l : Tokens). l ++ c.rest) (sym f);
      counted = i.counted ∙ sym (counts_raw x c.text raw);
      numbered = λ z more e h ends.
          let whole : ts ≡ (filled c.text c.bodies ++ z) ++ more = i.same ∙ ap (λ (l : Tokens). filled c.text c.bodies ++ l) h ∙ sym (append_assoc (filled c.text c.bodies) z more) in
          let front : behind x e (filled c.text c.bodies ++ z) ≡ None = none_front x end e (filled c.text c.bodies ++ z) more (ap (behind x end) (sym whole) ∙ none) in
          ap (λ (l : Tokens). pieces e (l ++ z)) f
          ∙ pieces_by e x (filled c.text c.bodies ++ z) None front
          ∙ ap (λ (l : Tokens). x ∷ l) (i.numbered z more e h ends);
    }

step_some : (end : ℕ) (x : Token) (ts : Tokens) (b : Span × Tokens) (c : Cut) → length ts ≤ end → Joint x b.0 → Found end ts b.0 b.1 → CutIs end b.1 c
    → CutIs end (x ∷ ts) (record { text = with_span x b.0 ∷ c.text; bodies = take (b.0.to - b.0.from) (drop 1 ts) ∷ c.bodies; rest = c.rest })
step_some end x ts b c within j k i =
    let tail : Tokens = right b.0.closes ∷ b.1 in
    let long : length ts ≡ suc (length k.mid + suc (length b.1)) = ap length k.is ∙ ap suc (length-append k.mid tail) in
    let many : b.0.to - b.0.from ≡ length k.mid = let f = k.from in let t = k.to in omega (arith, f, t, long, within) in
    let inner : take (b.0.to - b.0.from) (drop 1 ts) ≡ k.mid =
    ap (λ (l : Tokens). take (b.0.to - b.0.from) (drop 1 l)) k.is ∙ ap (λ n. take n (k.mid ++ tail)) many ∙ take-append_seam k.mid tail in
    let rest : Tokens = filled c.text c.bodies in
    let shown : filled (with_span x b.0 ∷ c.text) (take (b.0.to - b.0.from) (drop 1 ts) ∷ c.bodies) ≡ x ∷ left b.0.opens ∷ (k.mid ++ right b.0.closes ∷ rest) =
    ap (λ (l : Tokens). filled (with_span x b.0 ∷ c.text) (l ∷ c.bodies)) inner ∙ j.filled c.text k.mid c.bodies in
    record {
      same =
          ap (λ (l : Tokens). x ∷ l) (k.is ∙ ap (λ (l : Tokens). left b.0.opens ∷ (k.mid ++ right b.0.closes ∷ l)) i.same ∙ ap (λ (l : Tokens). left b.0.opens ∷ l) (sym (append_assoc k.mid (right b.0.closes ∷ rest) c.rest)))
          ∙ ap (λ (l : Tokens). l ++ c.rest) (sym shown);
      counted = ap (λ (l : Tokens). length l ∷ map length c.bodies) inner ∙ ap (λ n. n ∷ map length c.bodies) (sym many) ∙ ap (λ l. (b.0.to - b.0.from) ∷ l) i.counted ∙ sym (j.counts c.text);
      numbered = λ z more e h ends.
          let flat : (k.mid ++ right b.0.closes ∷ rest) ++ z ≡ k.mid ++ right b.0.closes ∷ (rest ++ z) = append_assoc k.mid (right b.0.closes ∷ rest) z in
          let l1 : length b.1 ≡ length (rest ++ z) + length more =
          ap length (i.same ∙ ap (λ (l : Tokens). rest ++ l) h ∙ sym (append_assoc rest z more)) ∙ length-append (rest ++ z) more in
          let is_body : body e (left b.0.opens ∷ (k.mid ++ right b.0.closes ∷ (rest ++ z))) ≡ Some (b.0, rest ++ z) =
          body_is end e b.0 k.mid b.1 (rest ++ z) k.closes k.from k.to (omega (arith, long, within)) (omega (arith, l1, ends)) in
          ap (λ (l : Tokens). pieces e (l ++ z)) shown
          ∙ ap (λ (l : Tokens). pieces e (x ∷ left b.0.opens ∷ l)) flat
          ∙ pieces_by e x (left b.0.opens ∷ (k.mid ++ right b.0.closes ∷ (rest ++ z))) (Some (b.0, rest ++ z)) (j.behind e _ ∙ is_body)
          ∙ ap (λ (l : Tokens). with_span x b.0 ∷ l) (i.numbered z more e h ends);
    }

step_sound : (end : ℕ) (x : Token) (ts : Tokens) (go : Tokens → Option Cut) (c : Cut) → length ts ≤ end → is_raw x ≡ true
    → ((us : Tokens) (c : Cut) → length us ≤ end → go us ≡ Some c → CutIs end us c)
    → (o : Option (Span × Tokens)) → behind x end ts ≡ o → cut_step x ts o go ≡ Some c → CutIs end (x ∷ ts) c
step_sound end x ts go c within raw h None is e =
    let a = bind_some (go ts) _ _ e in
    subst (CutIs end (x ∷ ts)) (some_same a.2) (step_none end x ts a.0 raw is (h ts a.0 within a.1))
step_sound end x ts go c within raw h (Some b) is e =
    let a = bind_some (go b.1) _ _ e in
    let j = joint x end ts b is in
    let k = found end ts b.0 b.1 (sym (j.behind end ts) ∙ is) in
    let long : length ts ≡ suc (length k.mid + suc (length b.1)) = ap length k.is ∙ ap suc (length-append k.mid (right b.0.closes ∷ b.1)) in
    subst (CutIs end (x ∷ ts)) (some_same a.2) (step_some end x ts b a.0 within j k (h b.1 a.0 (omega (arith, long, within)) a.1))

cut_sound : (stop : Stop) (f end n : ℕ) (ts : Tokens) (c : Cut) → length ts ≤ end → cut_by stop f end n ts ≡ Some c → CutIs end ts c
unfolding cut_by
cut_sound stop zero end n ts c within e = absurd (cc e)
cut_sound stop (suc f) end n [] c within e = absurd (cc e)
cut_sound stop (suc f) end n (x ∷ ts) c within e = elim (maybe_is (turn (token_weight x stop) n) _ _ _ e) [
  | inl h ↦ subst (CutIs end (x ∷ ts)) (some_same h.1) (record { same = refl; counted = refl; numbered = λ z more e h ends. refl })
  | inr h ↦
      let a = raw_some (is_raw x) _ c h.2 in
      step_sound end x ts (cut_by stop f end h.0) c (omega (arith, within)) a.0 (λ us c w e. cut_sound stop f end h.0 us c w e) (behind x end ts) refl a.1
]

pub cut_is : (stop : Stop) (ts : Tokens) (c : Cut) → cut stop ts ≡ Some c → CutIs (length ts) ts c
cut_is stop ts c e = cut_sound stop (length ts) (length ts) 0 ts c (omega arith) e

-- ---- a head is cut off before what ends it

abbrev pub is_open : Token → Bool
is_open (Token.Sign m.OpenCurly at) = true
is_open _ = false

abbrev pub walk_step : Bool → Option ℕ → (ℕ → Option ℕ) → Option ℕ
walk_step true k go = None
walk_step false k go = k >>= go

-- How many are open behind the tokens, where n are before, and the flag says whether a `{` would open a body. None where a
-- token ends the head, or a body opens that isn't counted with the token before it.
unfoldable pub walk : Stop → ℕ → Bool → Tokens → Option ℕ
walk stop n flag [] = Some n
walk stop n flag (x ∷ ts) = walk_step (is_open x && flag) (turn (token_weight x stop) n) (λ k. walk stop k (joins_next x) ts)

pub record Ends (stop : Stop) (ts : Tokens) : Type 0 where
  pub head : Token
  pub tail : Tokens
  pub is : ts ≡ head ∷ tail
  pub closes : token_weight head stop ≡ Weight.Closes

step_next : (b : Bool) (o : Option ℕ) (go : ℕ → Option ℕ) (k : ℕ) → walk_step b o go ≡ Some k → (b ≡ false) × (j : ℕ) × (o ≡ Some j) × (go j ≡ Some k)
step_next true o go k h = absurd (cc h)
step_next false o go k h = let a = bind_some o go k h in (refl, a.0, a.1, a.2)

pub walk_next : (stop : Stop) (n : ℕ) (flag : Bool) (x : Token) (ts : Tokens) (k : ℕ) → walk stop n flag (x ∷ ts) ≡ Some k
    → ((is_open x && flag) ≡ false) × (j : ℕ) × (turn (token_weight x stop) n ≡ Some j) × (walk stop j (joins_next x) ts ≡ Some k)
unfolding walk
walk_next stop n flag x ts k h = step_next (is_open x && flag) (turn (token_weight x stop) n) (λ j. walk stop j (joins_next x) ts) k h

walk_end : (stop : Stop) (n : ℕ) (flag : Bool) (k : ℕ) → walk stop n flag [] ≡ Some k → n ≡ k
unfolding walk
walk_end stop n flag k h = cc h

-- what a token that isn't raw, or one that is, begins with
first_filled : (x : Token) (ts : Tokens) (bs : List Tokens) (rest : Tokens) → map length bs ≡ counts (x ∷ ts) → begins_curly (filled (x ∷ ts) bs ++ rest) ≡ is_open x
first_filled (Token.ArrowBody at s) ts [] rest c = refl
first_filled (Token.ArrowBody at s) ts (b ∷ bs) rest c = refl
first_filled (Token.CloseBody at s) ts [] rest c = refl
first_filled (Token.CloseBody at s) ts (b ∷ bs) rest c = refl
first_filled (Token.Sign m.OpenCurly at) ts bs rest c = refl
first_filled (Token.Sign _ at) ts bs rest c = refl
first_filled (Token.Word word at) ts bs rest c = refl
first_filled (Token.Id n at) ts bs rest c = refl
first_filled (Token.Literal x at) ts bs rest c = refl

closing_curly : (stop : Stop) (x : Token) (ts : Tokens) → token_weight x stop ≡ Weight.Closes → begins_curly (x ∷ ts) ≡ false
closing_curly Stop.Constants (Token.Sign m.OpenCurly at) ts h = absurd (cc h)
closing_curly _ (Token.Sign m.OpenCurly at) ts h = absurd (cc h)
closing_curly stop _ ts h = refl

end_curly : (stop : Stop) (ts : Tokens) → Ends stop ts → begins_curly ts ≡ false
end_curly stop ts e = subst (λ l. begins_curly l ≡ false) (sym e.is) (closing_curly stop e.head e.tail e.closes)

and_true : (b : Bool) → (b && true) ≡ false → b ≡ false
and_true true h = absurd (cc h)
and_true false h = refl

-- no `{` follows where it would open a body that isn't counted
unjoined : (stop : Stop) (j : ℕ) (x : Token) (text : Tokens) (bs : List Tokens) (rest : Tokens) (k : ℕ) → walk stop j (joins_next x) text ≡ Some k → Ends stop rest
    → map length bs ≡ counts text → (joins_next x && begins_curly (filled text bs ++ rest)) ≡ false
unjoined stop j x text bs rest k h e c = by (joins_next x) h
  where
    follows : (text : Tokens) → map length bs ≡ counts text → walk stop j true text ≡ Some k → begins_curly (filled text bs ++ rest) ≡ false
    follows [] c h = end_curly stop rest e
    follows (y ∷ ts) c h = first_filled y ts bs rest c ∙ and_true (is_open y) (walk_next stop j true y ts k h).0

    by : (b : Bool) → walk stop j b text ≡ Some k → (b && begins_curly (filled text bs ++ rest)) ≡ false
    by true h = follows text c h
    by false h = refl

no_counts : (bs : List Tokens) → map length bs ≡ [] → bs ≡ []
no_counts [] h = refl
no_counts (b ∷ bs) h = absurd (cc h)

abbrev cutting : Tokens → List Tokens → Tokens → Cut
cutting text bodies rest = record { text = text; bodies = bodies; rest = rest }

turned : (stop : Stop) (f end n j : ℕ) (x : Token) (ts : Tokens) → is_raw x ≡ true → turn (token_weight x stop) n ≡ Some j
    → cut_by stop (suc f) end n (x ∷ ts) ≡ cut_step x ts (behind x end ts) (cut_by stop f end j)
unfolding cut_by
turned stop f end n j x ts raw t = rw (t, raw) refl

ended : (stop : Stop) (f end : ℕ) (ts : Tokens) → Ends stop ts → cut_by stop (suc f) end 0 ts ≡ Some (cutting [] [] ts)
unfolding cut_by
ended stop f end ts e = subst (λ l. cut_by stop (suc f) end 0 l ≡ Some (cutting [] [] l)) (sym e.is) (rw e.closes refl)

raw_none : (e : ℕ) (x : Token) (ts us : Tokens) (o : Option (Span × Tokens)) → is_raw x ≡ true → behind x e ts ≡ o → pieces e (x ∷ ts) ≡ x ∷ us → pieces e ts ≡ us
raw_none e x ts us None raw h p = let q = sym (pieces_by e x ts None h) ∙ p in cc q
raw_none e (Token.Sign m.Arrow at) ts us (Some b) raw h p = let q = sym (pieces_by e (Token.Sign m.Arrow at) ts (Some b) h) ∙ p in absurd (cc q)
raw_none e (Token.Sign m.CloseRound at) ts us (Some b) raw h p = let q = sym (pieces_by e (Token.Sign m.CloseRound at) ts (Some b) h) ∙ p in absurd (cc q)
raw_none e _ ts us (Some b) raw h p = absurd (cc h)

same_front : (a b c d : Tokens) → length a ≡ length b → a ++ c ≡ b ++ d → (a ≡ b) × (c ≡ d)
same_front [] [] c d l h = (refl, h)
same_front [] (y ∷ b) c d l h = absurd (omega (arith, l))
same_front (x ∷ a) [] c d l h = absurd (omega (arith, l))
same_front (x ∷ a) (y ∷ b) c d l h =
    let head : x ≡ y = cc h in
    let i = same_front a b c d (omega (arith, l)) (cc h) in
    (ap (λ z. z ∷ a) head ∙ ap (λ (r : Tokens). y ∷ r) i.0, i.1)

body_step : (stop : Stop) (f end n j : ℕ) (x : Token) (ts : Tokens) (b : Span × Tokens) (c : Cut) → is_raw x ≡ true → turn (token_weight x stop) n ≡ Some j → behind x end ts ≡ Some b
    → cut_by stop f end j b.1 ≡ Some c → cut_by stop (suc f) end n (x ∷ ts) ≡ Some (cutting (with_span x b.0 ∷ c.text) (take (b.0.to - b.0.from) (drop 1 ts) ∷ c.bodies) c.rest)
body_step stop f end n j x ts b c raw t h go = turned stop f end n j x ts raw t ∙ rw (h, go) refl

-- the body that is counted is the one that stands there
record Stood (e : ℕ) (span : Span) (b rest us : Tokens) : Type 0 where
  closes : (z : Tokens) → from_closing 0 (b ++ right span.closes ∷ z) ≡ right span.closes ∷ z
  from : span.from ≡ e - (length b + suc (length rest))
  to : span.to ≡ e - suc (length rest)
  further : pieces e rest ≡ us

stood_by : (e : ℕ) (x : Token) (span : Span) (b rest us : Tokens) → Joint x span → length b ≡ span.to - span.from → suc (length b + suc (length rest)) ≤ e
    → (o : Option (Span × Tokens)) → body e (left span.opens ∷ (b ++ right span.closes ∷ rest)) ≡ o
    → pieces e (x ∷ left span.opens ∷ (b ++ right span.closes ∷ rest)) ≡ with_span x span ∷ us → Stood e span b rest us
stood_by e x span b rest us j many within None h p =
    let whole : Tokens = left span.opens ∷ (b ++ right span.closes ∷ rest) in
    let q : x ∷ pieces e whole ≡ with_span x span ∷ us = sym (pieces_by e x whole None (j.behind e whole ∙ h)) ∙ p in
    absurd (j.differs (cc q))
stood_by e x span b rest us j many within (Some found_there) h p =
    let whole : Tokens = left span.opens ∷ (b ++ right span.closes ∷ rest) in
    let q : with_span x found_there.0 ∷ pieces e found_there.1 ≡ with_span x span ∷ us = sym (pieces_by e x whole (Some found_there) (j.behind e whole ∙ h)) ∙ p in
    let s : found_there.0 ≡ span = j.same found_there.0 (cc q) in
    let more : pieces e found_there.1 ≡ us = cc q in
    let P : Span → Type 0 = λ s. Found e whole s found_there.1 in
    let k : Found e whole span found_there.1 = subst P s (found e whole found_there.0 found_there.1 h) in
    let inside : k.mid ++ right span.closes ∷ found_there.1 ≡ b ++ right span.closes ∷ rest = let z = k.is in cc z in
    let l1 = length-append k.mid (right span.closes ∷ found_there.1) in
    let l2 = length-append b (right span.closes ∷ rest) in
    let l3 = ap length inside in
    let f = k.from in
    let t = k.to in
    let long : length k.mid ≡ length b = omega (arith, l1, l2, l3, f, t, many, within) in
    let i = same_front k.mid b (right span.closes ∷ found_there.1) (right span.closes ∷ rest) long inside in
    let r : found_there.1 ≡ rest = let z = i.1 in cc z in
    let lr = ap length r in
    let Q : Tokens → Type 0 = λ mid. (z : Tokens) → from_closing 0 (mid ++ right span.closes ∷ z) ≡ right span.closes ∷ z in
    record {
      closes = subst Q i.0 k.closes;
      from = omega (arith, f, long, lr);
      to = omega (arith, t, lr);
      further = ap (pieces e) (sym r) ∙ more;
    }

-- from a head to the same with a token more before it
module _ (stop : Stop) (text : Tokens) (z more w : Tokens) (e end : ℕ) (ends : Ends stop (z ++ more)) (total : end ≡ e + length more) where
  abbrev Again : ℕ → Bool → List Tokens → Type 0
  Again n flag bs = (f : ℕ) → walk stop n flag text ≡ Some 0 → map length bs ≡ counts text → pieces e (filled text bs ++ z) ≡ text ++ w → length (filled text bs ++ z) ≤ e → suc (length text) ≤ f
      → cut_by stop f end n (filled text bs ++ (z ++ more)) ≡ Some (cutting text bs (z ++ more))

  raw_again : (x : Token) (n j : ℕ) (bs : List Tokens) (f : ℕ) → is_raw x ≡ true → Again j (joins_next x) bs
      → turn (token_weight x stop) n ≡ Some j → walk stop j (joins_next x) text ≡ Some 0 → map length bs ≡ counts (x ∷ text) → pieces e (filled (x ∷ text) bs ++ z) ≡ x ∷ text ++ w
      → length (filled (x ∷ text) bs ++ z) ≤ e → suc (length (x ∷ text)) ≤ suc f
      → cut_by stop (suc f) end n (filled (x ∷ text) bs ++ (z ++ more)) ≡ Some (cutting (x ∷ text) bs (z ++ more))
  raw_again x n j bs f raw go t h c p within enough =
      let fill = filled_raw x text bs raw in
      let counted : map length bs ≡ counts text = c ∙ counts_raw x text raw in
      let q : pieces e (filled text bs ++ z) ≡ text ++ w =
      raw_none e x (filled text bs ++ z) (text ++ w) (behind x e (filled text bs ++ z)) raw refl (ap (λ (l : Tokens). pieces e (l ++ z)) (sym fill) ∙ p) in
      let long = ap (λ (l : Tokens). length (l ++ z)) fill in
      let none : behind x end (filled text bs ++ (z ++ more)) ≡ None = no_behind x end (filled text bs ++ (z ++ more)) (unjoined stop j x text bs (z ++ more) 0 h ends counted) in
      let i = go f h counted q (omega (arith, long, within)) (omega (arith, enough)) in
      ap (λ (l : Tokens). cut_by stop (suc f) end n (l ++ (z ++ more))) fill
      ∙ turned stop f end n j x (filled text bs ++ (z ++ more)) raw t
      ∙ rw (none, i) refl

  body_again : (x : Token) (span : Span) (n j : ℕ) (b : Tokens) (bs : List Tokens) (f : ℕ) → Joint x span → Again j false bs
      → turn (token_weight (with_span x span) stop) n ≡ Some j → walk stop j false text ≡ Some 0 → map length (b ∷ bs) ≡ counts (with_span x span ∷ text)
      → pieces e (filled (with_span x span ∷ text) (b ∷ bs) ++ z) ≡ with_span x span ∷ text ++ w
      → length (filled (with_span x span ∷ text) (b ∷ bs) ++ z) ≤ e → suc (length (with_span x span ∷ text)) ≤ suc f
      → cut_by stop (suc f) end n (filled (with_span x span ∷ text) (b ∷ bs) ++ (z ++ more)) ≡ Some (cutting (with_span x span ∷ text) (b ∷ bs) (z ++ more))
  body_again x span n j b bs f joint go t h c p within enough =
      let F : Tokens = filled text bs in
      let closer : Token = right span.closes in
      let flat : (us : Tokens) → filled (with_span x span ∷ text) (b ∷ bs) ++ us ≡ x ∷ left span.opens ∷ (b ++ closer ∷ (F ++ us)) = λ us.
      ap (λ (l : Tokens). l ++ us) (joint.filled text b bs) ∙ ap (λ (l : Tokens). x ∷ left span.opens ∷ l) (append_assoc b (closer ∷ F) us) in
      let counted : length b ∷ map length bs ≡ (span.to - span.from) ∷ counts text = c ∙ joint.counts text in
      let many : length b ≡ span.to - span.from = cc counted in
      let rest_counted : map length bs ≡ counts text = cc counted in
      let l1 = ap length (flat z) in
      let l2 = length-append b (closer ∷ (F ++ z)) in
      let room : suc (length b + suc (length (F ++ z))) ≤ e = omega (arith, l1, l2, within) in
      let stood = stood_by e x span b (F ++ z) (text ++ w) joint many room (body e (left span.opens ∷ (b ++ closer ∷ (F ++ z)))) refl (ap (pieces e) (sym (flat z)) ∙ p) in
      let whole : Tokens = F ++ (z ++ more) in
      let l3 = length-append (F ++ z) more in
      let l4 = ap length (append_assoc F z more) in
      let there : body end (left span.opens ∷ (b ++ closer ∷ whole)) ≡ Some (span, whole) =
      body_is e end span b (F ++ z) whole stood.closes stood.from stood.to (omega (arith, room)) (omega (arith, l3, l4, total)) in
      let i = go f h rest_counted stood.further (omega (arith, room)) (omega (arith, enough)) in
      let inner : take (span.to - span.from) (b ++ closer ∷ whole) ≡ b = ap (λ k. take k (b ++ closer ∷ whole)) (sym many) ∙ take-append_seam b (closer ∷ whole) in
      ap (cut_by stop (suc f) end n) (flat (z ++ more))
      ∙ body_step stop f end n j x (left span.opens ∷ (b ++ closer ∷ whole)) (span, whole) (cutting text bs (z ++ more)) joint.raw (ap (λ k. turn k n) (joint.weight stop) ∙ t) (joint.behind end (left span.opens ∷ (b ++ closer ∷ whole)) ∙ there) i
      ∙ ap (λ (l : Tokens). Option.Some (cutting (with_span x span ∷ text) (l ∷ bs) (z ++ more))) inner

cut_again : (stop : Stop) (text : Tokens) (bs : List Tokens) (z more w : Tokens) (e end n : ℕ) (flag : Bool) (ends : Ends stop (z ++ more)) (total : end ≡ e + length more)
    → Again stop text z more w e end ends total n flag bs
cut_again stop [] bs z more w e end n flag ends total zero h c p within enough = absurd (omega (arith, enough))
cut_again stop [] bs z more w e end n flag ends total (suc f) h c p within enough =
    let none = no_counts bs c in
    let start : n ≡ 0 = walk_end stop n flag 0 h in
    ap (λ k. cut_by stop (suc f) end k (z ++ more)) start ∙ ended stop f end (z ++ more) ends ∙ ap (λ l. Option.Some (cutting [] l (z ++ more))) (sym none)
cut_again stop (x ∷ text) bs z more w e end n flag ends total zero h c p within enough = absurd (omega (arith, enough))
cut_again stop (Token.ArrowBody at span ∷ text) [] z more w e end n flag ends total (suc f) h c p within enough = absurd (cc c)
cut_again stop (Token.CloseBody at span ∷ text) [] z more w e end n flag ends total (suc f) h c p within enough = absurd (cc c)
cut_again stop (Token.ArrowBody at span ∷ text) (b ∷ bs) z more w e end n flag ends total (suc f) h c p within enough =
    let i = walk_next stop n flag (Token.ArrowBody at span) text 0 h in
    body_again stop text z more w e end ends total (Token.Sign m.Arrow at) span n i.1 b bs f (arrow_joint at span) (cut_again stop text bs z more w e end i.1 false ends total) i.2 i.3 c p within enough
cut_again stop (Token.CloseBody at span ∷ text) (b ∷ bs) z more w e end n flag ends total (suc f) h c p within enough =
    let i = walk_next stop n flag (Token.CloseBody at span) text 0 h in
    body_again stop text z more w e end ends total (Token.Sign m.CloseRound at) span n i.1 b bs f (close_joint at span) (cut_again stop text bs z more w e end i.1 false ends total) i.2 i.3 c p within enough
cut_again stop (Token.Sign mark at ∷ text) bs z more w e end n flag ends total (suc f) h c p within enough =
    let x : Token = Token.Sign mark at in
    let i = walk_next stop n flag x text 0 h in
    raw_again stop text z more w e end ends total x n i.1 bs f refl (cut_again stop text bs z more w e end i.1 (joins_next x) ends total) i.2 i.3 c p within enough
cut_again stop (Token.Word word at ∷ text) bs z more w e end n flag ends total (suc f) h c p within enough =
    let x : Token = Token.Word word at in
    let i = walk_next stop n flag x text 0 h in
    raw_again stop text z more w e end ends total x n i.1 bs f refl (cut_again stop text bs z more w e end i.1 (joins_next x) ends total) i.2 i.3 c p within enough
cut_again stop (Token.Id name at ∷ text) bs z more w e end n flag ends total (suc f) h c p within enough =
    let x : Token = Token.Id name at in
    let i = walk_next stop n flag x text 0 h in
    raw_again stop text z more w e end ends total x n i.1 bs f refl (cut_again stop text bs z more w e end i.1 (joins_next x) ends total) i.2 i.3 c p within enough
cut_again stop (Token.Literal literal at ∷ text) bs z more w e end n flag ends total (suc f) h c p within enough =
    let x : Token = Token.Literal literal at in
    let i = walk_next stop n flag x text 0 h in
    raw_again stop text z more w e end ends total x n i.1 bs f refl (cut_again stop text bs z more w e end i.1 (joins_next x) ends total) i.2 i.3 c p within enough

filled_longer : (text : Tokens) (bs : List Tokens) → length text ≤ length (filled text bs)
filled_longer [] bs = omega arith
filled_longer (Token.ArrowBody at span ∷ text) [] = let e = filled_longer text [] in omega (arith, e)
filled_longer (Token.CloseBody at span ∷ text) [] = let e = filled_longer text [] in omega (arith, e)
filled_longer (Token.ArrowBody at span ∷ text) (b ∷ bs) =
    let e = filled_longer text bs in
    let l = length-append b (right span.closes ∷ filled text bs) in
    omega (arith, e, l)
filled_longer (Token.CloseBody at span ∷ text) (b ∷ bs) =
    let e = filled_longer text bs in
    let l = length-append b (right span.closes ∷ filled text bs) in
    omega (arith, e, l)
filled_longer (Token.Sign mark at ∷ text) bs = let e = filled_longer text bs in omega (arith, e)
filled_longer (Token.Word word at ∷ text) bs = let e = filled_longer text bs in omega (arith, e)
filled_longer (Token.Id n at ∷ text) bs = let e = filled_longer text bs in omega (arith, e)
filled_longer (Token.Literal x at ∷ text) bs = let e = filled_longer text bs in omega (arith, e)

pub cut_kept : (stop : Stop) (text : Tokens) (bs : List Tokens) (z more w : Tokens) → walk stop 0 false text ≡ Some 0 → Ends stop (z ++ more) → map length bs ≡ counts text
    → pieces (length (filled text bs ++ z)) (filled text bs ++ z) ≡ text ++ w
    → cut stop (filled text bs ++ (z ++ more)) ≡ Some (record { text = text; bodies = bs; rest = z ++ more })
cut_kept stop text bs z more w h ends c p =
    let l1 = ap length (append_assoc (filled text bs) z more) in
    let l2 = length-append (filled text bs ++ z) more in
    let l3 = length-append (filled text bs) (z ++ more) in
    let l4 = filled_longer text bs in
    let l5 = ap length ends.is in
    let whole : ℕ = length (filled text bs ++ (z ++ more)) in
    cut_again stop text bs z more w (length (filled text bs ++ z)) whole 0 false ends (omega (arith, l1, l2)) whole h c p (omega arith) (omega (arith, l3, l4, l5))

-- ---- a token that belongs to a head which it ends

pub record Tail (z : Tokens) : Type 0 where
  pub spans : spans z ≡ []
  pub counts : counts z ≡ []
  pub filled : filled z [] ≡ z
  pub pieces : (e : ℕ) → pieces e z ≡ z

pub no_tail : Tail []
no_tail = record { spans = refl; counts = refl; filled = refl; pieces = pieces_none }

pub mark_tail : (mark : Mark) (at : Position) → joins_next (Token.Sign mark at) ≡ false → Tail (Token.Sign mark at ∷ [])
mark_tail mark at h = record {
  spans = refl;
  counts = refl;
  filled = refl;
  pieces = λ e. pieces_by e (Token.Sign mark at) [] None (no_behind (Token.Sign mark at) e [] (by mark h)) ∙ ap (λ (l : Tokens). Token.Sign mark at ∷ l) (pieces_none e);
}
  where
    by : (mark : Mark) → joins_next (Token.Sign mark at) ≡ false → (joins_next (Token.Sign mark at) && false) ≡ false
    by m.Arrow h = refl
    by m.CloseRound h = refl
    by _ h = refl

pub spans_end : (text z : Tokens) → Tail z → spans (text ++ z) ≡ spans text
spans_end [] z t = t.spans
spans_end (Token.ArrowBody at span ∷ text) z t = ap (λ l. true ∷ l) (spans_end text z t)
spans_end (Token.CloseBody at span ∷ text) z t = ap (λ l. false ∷ l) (spans_end text z t)
spans_end (Token.Sign mark at ∷ text) z t = spans_end text z t
spans_end (Token.Word word at ∷ text) z t = spans_end text z t
spans_end (Token.Id n at ∷ text) z t = spans_end text z t
spans_end (Token.Literal x at ∷ text) z t = spans_end text z t

pub counts_end : (text z : Tokens) → Tail z → counts (text ++ z) ≡ counts text
counts_end [] z t = t.counts
counts_end (Token.ArrowBody at span ∷ text) z t = ap (λ l. (span.to - span.from) ∷ l) (counts_end text z t)
counts_end (Token.CloseBody at span ∷ text) z t = ap (λ l. (span.to - span.from) ∷ l) (counts_end text z t)
counts_end (Token.Sign mark at ∷ text) z t = counts_end text z t
counts_end (Token.Word word at ∷ text) z t = counts_end text z t
counts_end (Token.Id n at ∷ text) z t = counts_end text z t
counts_end (Token.Literal x at ∷ text) z t = counts_end text z t

pub filled_end : (text z : Tokens) (bs : List Tokens) → Tail z → map length bs ≡ counts text → filled (text ++ z) bs ≡ filled text bs ++ z
filled_end [] z bs t c = ap (λ (l : List Tokens). filled z l) (no_counts bs c) ∙ t.filled
filled_end (Token.ArrowBody at span ∷ text) z [] t c = absurd (cc c)
filled_end (Token.CloseBody at span ∷ text) z [] t c = absurd (cc c)
filled_end (Token.ArrowBody at span ∷ text) z (b ∷ bs) t c =
    ap (λ (l : Tokens). Token.Sign m.Arrow at ∷ left span.opens ∷ (b ++ right span.closes ∷ l)) (filled_end text z bs t (cc c))
    ∙ ap (λ (l : Tokens). Token.Sign m.Arrow at ∷ left span.opens ∷ l) (sym (append_assoc b (right span.closes ∷ filled text bs) z))
filled_end (Token.CloseBody at span ∷ text) z (b ∷ bs) t c =
    ap (λ (l : Tokens). Token.Sign m.CloseRound at ∷ left span.opens ∷ (b ++ right span.closes ∷ l)) (filled_end text z bs t (cc c))
    ∙ ap (λ (l : Tokens). Token.Sign m.CloseRound at ∷ left span.opens ∷ l) (sym (append_assoc b (right span.closes ∷ filled text bs) z))
filled_end (Token.Sign mark at ∷ text) z bs t c = ap (λ (l : Tokens). Token.Sign mark at ∷ l) (filled_end text z bs t c)
filled_end (Token.Word word at ∷ text) z bs t c = ap (λ (l : Tokens). Token.Word word at ∷ l) (filled_end text z bs t c)
filled_end (Token.Id n at ∷ text) z bs t c = ap (λ (l : Tokens). Token.Id n at ∷ l) (filled_end text z bs t c)
filled_end (Token.Literal x at ∷ text) z bs t c = ap (λ (l : Tokens). Token.Literal x at ∷ l) (filled_end text z bs t c)
