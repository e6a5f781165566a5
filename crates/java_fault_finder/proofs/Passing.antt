-- From run to run.
use Rattle.std.proofs.Common.{◌≡◌, ◌≤◌, ◌<◌, ◌+◌, ◌-◌, ◌*◌, ℕ, List, [], ◌∷◌, ◌++◌, length, map, reverse, Option, Some, None, refl, ap, sym, ◌∙◌, subst, arith}
use Rattle.std.proofs.lemmas.List.{reverse-append, map-append, length-append, length-reverse, length-map}
use Rattle.java_tree.specs.declared.tokens.Mark.TheVariants as m
use Rattle.java_tree.specs.declared.tokens.JToken.{JToken}
use Rattle.java_tree.specs.Seen.{Token, Tokens, seen}
use Rattle.java_expr_grammar.proofs.LawsToCite.{length_seen, bind_some, some_same}
use Rattle.java_expr_grammar.specs.Reading.{◌>>=◌, maybe}
use Rattle.java_token_cursor.specs.declared.piece.Piece.{Piece}
use Rattle.java_token_cursor.specs.Shown.{shown}
use Rattle.java_type_parser.proofs.LawsToCite.{length_shown}
use Rattle.java_member_grammar.specs.declared.heads.JTypeHead.{JTypeHead}
use Rattle.java_member_grammar.specs.declared.heads.JTypeHead.TheVariants as kind
use Rattle.java_unit_grammar.specs.Standing.{Owner, owner_of}
use Rattle.java_unit_grammar.specs.Reading.{close_curly}
use Rattle.java_fault_grammar.specs.Runs.{Run, run}
use Rattle.java_fault_grammar.specs.Walk as w
use Rattle.java_fault_grammar.specs.Forms.{form_at, run_read, read_at, form_read}
use Rattle.java_fault_grammar.proofs.LawsToCite.{run_parts, form_sound, unread, own_full, head_full, empty_full}
use Rattle.java_fault_finder.specs.declared.states.Opened.{Opened}
use Rattle.java_fault_finder.specs.declared.states.Passed.{Passed}
use Rattle.java_fault_finder.specs.declared.states.Passed.TheVariants as p
use Rattle.java_fault_finder.specs.Walks.{opened_seen, around_seen, opened_of, is_enum, passed_of, inner, level, behind, after, passed_at, pass_read, closed, end_by, end_read, room, IsWalked}

-- ---- whose bodies are open

pub around_none : around_seen [] ≡ []
unfolding around_seen
around_none = refl

pub around_push : (xs : List Opened) (x : Opened) → around_seen (xs ++ x ∷ []) ≡ opened_seen x ∷ around_seen xs
unfolding around_seen
around_push xs x = ap reverse (map-append opened_seen xs (x ∷ [])) ∙ reverse-append (map opened_seen xs) (opened_seen x ∷ [])

pub around_long : (xs : List Opened) → length (around_seen xs) ≡ length xs
unfolding around_seen
around_long xs = length-reverse (map opened_seen xs) ∙ length-map xs opened_seen

pub level_none : (xs : List Owner) → length xs ≡ 0 → level xs ≡ w.Spot.Top
level_none [] h = refl
level_none (x ∷ xs) h = absurd (cc h)

pub level_some : (xs : List Owner) → 0 < length xs → level xs ≡ w.Spot.Member
level_some [] h = absurd (omega (arith, h))
level_some (x ∷ xs) h = refl

pub behind_push : (xs : List Owner) (x : Owner) → behind (x ∷ xs) ≡ xs
behind_push xs x = refl

pub ruleset states = (around_none, around_push, around_long, level_none, level_some)

-- ---- what is read

pub end_some : (xs : List Owner) (ts : Tokens) → 0 < length xs → end_by w.Spot.Member xs ts ≡ closed ts
end_some [] ts h = absurd (omega (arith, h))
end_some (x ∷ xs) ts h = refl

pub end_none : (xs : List Owner) (ts : Tokens) → length xs ≡ 0 → end_by w.Spot.Member xs ts ≡ None
end_none [] ts h = refl
end_none (x ∷ xs) ts h = absurd (cc h)

pub ruleset ends = (around_long, end_some, end_none)

abbrev passed_form : w.Form × Tokens → Option (Passed × Tokens)
passed_form x = Some (passed_of x.0, x.1)

abbrev only : w.Form → Option Passed
only x = Some (passed_of x)

abbrev form_rest : Tokens → w.Form → Option (w.Form × Tokens)
form_rest rest x = Some (x, rest)

abbrev passed_rest : Tokens → Passed → Option (Passed × Tokens)
passed_rest rest x = Some (x, rest)

curly_closed : (ts : Tokens) (rest : Tokens) → closed ts ≡ Some rest → (at : _) × (close_curly ts ≡ Some (at, rest))
curly_closed (Token.Sign m.CloseCurly at ∷ ts) rest e = (at, ap (λ (l : Tokens). Option.Some (at, l)) (some_same e))
curly_closed _ rest e = absurd (cc e)

no_curly : (ts : Tokens) → closed ts ≡ None → close_curly ts ≡ None
no_curly (Token.Sign m.CloseCurly at ∷ ts) e = absurd (cc e)
no_curly _ e = refl

closed_read : (spot : w.Spot) (around : List Owner) (ts rest : Tokens) → end_by spot around ts ≡ Some rest → (at : _) × (read_at spot around ts ≡ Some (w.Form.Ends at, rest))
closed_read w.Spot.Member (x ∷ xs) ts rest e =
    let c = curly_closed ts rest e in
    (c.0, ap (λ o. maybe o (run_read w.Spot.Member (x ∷ xs) ts) (λ c. Some (w.Form.Ends c.0, c.1))) c.1)
closed_read w.Spot.Member [] ts rest e = absurd (cc e)
closed_read w.Spot.Start around ts rest e = absurd (cc e)
closed_read w.Spot.Lines around ts rest e = absurd (cc e)
closed_read w.Spot.Top around ts rest e = absurd (cc e)
closed_read w.Spot.Constants around ts rest e = absurd (cc e)

pub ends_read : (s : w.State) (ts rest : Tokens) → end_read s ts ≡ Some rest → pass_read s ts ≡ Some (p.Ends, rest)
unfolding pass_read
ends_read s ts rest e = let c = closed_read s.spot s.around ts rest e in ap (λ (o : Option (w.Form × Tokens)). o >>= passed_form) c.1

unclosed_read : (spot : w.Spot) (around : List Owner) (ts : Tokens) → end_by spot around ts ≡ None → read_at spot around ts ≡ run_read spot around ts
unfolding run_read
unclosed_read w.Spot.Member (x ∷ xs) ts e = ap (λ o. maybe o (run_read w.Spot.Member (x ∷ xs) ts) (λ c. Some (w.Form.Ends c.0, c.1))) (no_curly ts e)
unclosed_read w.Spot.Member [] ts e = refl
unclosed_read w.Spot.Start around ts e = refl
unclosed_read w.Spot.Lines around ts e = refl
unclosed_read w.Spot.Top around ts e = refl
unclosed_read w.Spot.Constants around ts e = refl

passed_by : (o : Option w.Form) (rest : Tokens) → ((o >>= form_rest rest) >>= passed_form) ≡ ((o >>= only) >>= passed_rest rest)
passed_by None rest = refl
passed_by (Some f) rest = refl

run_passed : (s : w.State) (ts : Tokens) → end_read s ts ≡ None → pass_read s ts ≡ (passed_at s (run ts).text >>= passed_rest (run ts).rest)
unfolding pass_read passed_at run_read
run_passed s ts e =
    ap (λ (o : Option (w.Form × Tokens)). o >>= passed_form) (unclosed_read s.spot s.around ts e) ∙ passed_by (form_at s.spot s.around (run ts).text) (run ts).rest

-- a run that was found
pub run_none : (s : w.State) (ts : Tokens) (r : Run) → end_read s ts ≡ None → r ≡ run ts → passed_at s r.text ≡ None → pass_read s ts ≡ None
run_none s ts r e same none = run_passed s ts e ∙ ap (λ (o : Option Passed). o >>= passed_rest (run ts).rest) (ap (λ (z : Run). passed_at s z.text) (sym same) ∙ none)

pub run_some : (s : w.State) (ts : Tokens) (r : Run) (x : Passed) → end_read s ts ≡ None → r ≡ run ts → passed_at s r.text ≡ Some x → pass_read s ts ≡ Some (x, r.rest)
run_some s ts r x e same some =
    run_passed s ts e
    ∙ ap (λ (o : Option Passed). o >>= passed_rest (run ts).rest) (ap (λ (z : Run). passed_at s z.text) (sym same) ∙ some)
    ∙ ap (λ (z : Run). Option.Some (x, z.rest)) (sym same)

-- the run is no longer than the tokens
pub run_within : (ts : Tokens) (r : Run) → r ≡ run ts → length r.text ≤ length ts
run_within ts r same =
    let l1 = ap length (run_parts ts) in
    let l2 = length-append (run ts).text (run ts).rest in
    let l3 = ap (λ (z : Run). length z.text) same in
    omega (arith, l1, l2, l3)

pub ruleset reads = (ends_read, run_none, run_some, run_within, length_shown)

-- ---- what a form does is what follows it

owner_same : (x : JTypeHead) → opened_seen (opened_of x) ≡ owner_of x
owner_same (kind.Class mods at n nat params above faces) = refl
owner_same (kind.Interface mods at n nat params above) = refl
owner_same (kind.Enum mods at n nat faces) = refl

inner_same : (x : JTypeHead) → inner (is_enum x) ≡ w.inner_spot x
inner_same (kind.Class mods at n nat params above faces) = refl
inner_same (kind.Interface mods at n nat params above) = refl
inner_same (kind.Enum mods at n nat faces) = refl

member_same : (around : List Owner) → record { spot = level around; around = around } ≡ w.behind_member around
member_same [] = refl
member_same (x ∷ xs) = refl

outer_same : (around : List Owner) → record { spot = level (behind around); around = behind around } ≡ w.outer around
outer_same [] = refl
outer_same (x ∷ []) = refl
outer_same (x ∷ y ∷ xs) = refl

after_same : (s : w.State) (f : w.Form) → after s (passed_of f) ≡ w.next s f
after_same s (w.Form.Package x) = refl
after_same s (w.Form.Import x) = refl
after_same s (w.Form.Head x left) =
    ap (λ (o : Owner). record { spot = inner (is_enum x); around = o ∷ s.around }) (owner_same x) ∙ ap (λ (z : w.Spot). record { spot = z; around = owner_of x ∷ s.around }) (inner_same x)
after_same s (w.Form.Member x) = member_same s.around
after_same s (w.Form.Constants x bodies) = refl
after_same s (w.Form.Ends at) = outer_same s.around

-- ---- how many tokens are left

-- a form is some tokens, or the constants of an enum, behind which members stand
data Size (s : w.State) (f : w.Form) : Type 0 where
  full : 1 ≤ length (w.form_tokens f) → Size s f
  empty : room s.spot ≡ 1 → room (w.next s f).spot ≡ 0 → Size s f

room_most : (spot : w.Spot) → room spot ≤ 1
room_most w.Spot.Start = omega arith
room_most w.Spot.Lines = omega arith
room_most w.Spot.Top = omega arith
room_most w.Spot.Constants = omega arith
room_most w.Spot.Member = omega arith

outside_size : (s : w.State) (f : w.Form) → w.takes_outside f → Size s f
outside_size s (w.Form.Head x left) t = Size.full (head_full x left)
outside_size s (w.Form.Member x) t = Size.full (empty_full x t)
outside_size s (w.Form.Package x) t = absurd t
outside_size s (w.Form.Import x) t = absurd t
outside_size s (w.Form.Constants x bodies) t = absurd t
outside_size s (w.Form.Ends at) t = absurd t

line_size : (s : w.State) (f : w.Form) → w.takes_line f → Size s f
line_size s (w.Form.Import x) t = Size.full (omega arith)
line_size s (w.Form.Head x left) t = Size.full (head_full x left)
line_size s (w.Form.Member x) t = Size.full (empty_full x t)
line_size s (w.Form.Package x) t = absurd t
line_size s (w.Form.Constants x bodies) t = absurd t
line_size s (w.Form.Ends at) t = absurd t

first_size : (s : w.State) (f : w.Form) → w.takes_first f → Size s f
first_size s (w.Form.Package x) t = Size.full (omega arith)
first_size s (w.Form.Import x) t = Size.full (omega arith)
first_size s (w.Form.Head x left) t = Size.full (head_full x left)
first_size s (w.Form.Member x) t = Size.full (empty_full x t)
first_size s (w.Form.Constants x bodies) t = absurd t
first_size s (w.Form.Ends at) t = absurd t

constants_size : (around : List Owner) (f : w.Form) → w.takes_constants f → Size (record { spot = w.Spot.Constants; around = around }) f
constants_size around (w.Form.Constants x bodies) t = Size.empty refl refl
constants_size around (w.Form.Package x) t = absurd t
constants_size around (w.Form.Import x) t = absurd t
constants_size around (w.Form.Head x left) t = absurd t
constants_size around (w.Form.Member x) t = absurd t
constants_size around (w.Form.Ends at) t = absurd t

inside_size : (s : w.State) (owner : Owner) (around : List Owner) (f : w.Form) → w.takes_inside (owner ∷ around) f → Size s f
inside_size s owner around (w.Form.Head x left) t = Size.full (head_full x left)
inside_size s owner around (w.Form.Member x) t = Size.full (own_full owner x t)
inside_size s owner around (w.Form.Ends at) t = Size.full (omega arith)
inside_size s owner around (w.Form.Package x) t = absurd t
inside_size s owner around (w.Form.Import x) t = absurd t
inside_size s owner around (w.Form.Constants x bodies) t = absurd t

no_owner : (s : w.State) (f : w.Form) → w.takes_inside [] f → Size s f
no_owner s (w.Form.Package x) t = absurd t
no_owner s (w.Form.Import x) t = absurd t
no_owner s (w.Form.Head x left) t = absurd t
no_owner s (w.Form.Member x) t = absurd t
no_owner s (w.Form.Constants x bodies) t = absurd t
no_owner s (w.Form.Ends at) t = absurd t

size_at : (spot : w.Spot) (around : List Owner) (f : w.Form) → w.takes_at spot around f → Size (record { spot = spot; around = around }) f
size_at w.Spot.Start around f t = first_size (record { spot = w.Spot.Start; around = around }) f t
size_at w.Spot.Lines around f t = line_size (record { spot = w.Spot.Lines; around = around }) f t
size_at w.Spot.Top around f t = outside_size (record { spot = w.Spot.Top; around = around }) f t
size_at w.Spot.Constants around f t = constants_size around f t
size_at w.Spot.Member [] f t = no_owner (record { spot = w.Spot.Member; around = [] }) f t
size_at w.Spot.Member (owner ∷ around) f t = inside_size (record { spot = w.Spot.Member; around = owner ∷ around }) owner around f t

-- how many tokens are left behind a form
pub record Left (s t : w.State) (ts rest : Tokens) : Type 0 where
  pub within : length rest + room t.spot ≤ length ts
  pub smaller : 2 * length rest + room t.spot < 2 * length ts + room s.spot

left_by : (s : w.State) (f : w.Form) (ts rest : Tokens) → ts ≡ w.form_tokens f ++ rest → Size s f → Left s (w.next s f) ts rest
left_by s f ts rest same (Size.full h) =
    let l1 = ap length same in
    let l2 = length-append (w.form_tokens f) rest in
    let r1 = room_most (w.next s f).spot in
    record { within = omega (arith, l1, l2, r1, h); smaller = omega (arith, l1, l2, r1, h) }
left_by s f ts rest same (Size.empty h g) =
    let l1 = ap length same in
    let l2 = length-append (w.form_tokens f) rest in
    record { within = omega (arith, l1, l2, g); smaller = omega (arith, l1, l2, h, g) }

left_read : (s : w.State) (f : w.Form) (ts rest : Tokens) → w.Stands s f ts rest → Left s (w.next s f) ts rest
left_read s f ts rest i = left_by s f ts rest i.same (size_at s.spot s.around f i.taken)

-- ---- the forms as far as the walk has come

pub record Led (ts : Tokens) (s : w.State) (rest : Tokens) : Type 0 where
  pub forms : List w.Form
  pub leads : w.Lead w.start ts forms s rest

lead_more : (s : w.State) (ts : Tokens) (fs : List w.Form) (t : w.State) (us : Tokens) (f : w.Form) (rest : Tokens) → w.Lead s ts fs t us → w.Stands t f us rest → w.Lead s ts (fs ++ f ∷ []) (w.next t f) rest
lead_more s ts [] t us f rest l i =
    let A : w.State → Type 0 = λ z. w.Stands z f us rest in
    let B : Tokens → Type 0 = λ z. w.Stands s f z rest in
    (rest, subst B (sym l.1) (subst A (sym l.0) i), (ap (λ (z : w.State). w.next z f) l.0, refl))
lead_more s ts (g ∷ fs) t us f rest l i = (l.0, l.1, lead_more (w.next s g) l.0 fs t us f rest l.2 i)

pub led_start : (ts : Tokens) (s : w.State) → s ≡ w.start → Led ts s ts
led_start ts s same = record { forms = []; leads = (sym same, refl) }

-- behind what was read
pub record On (ts : Tokens) (s : w.State) (us : Tokens) (t : w.State) (rest : Tokens) : Type 0 where
  pub led : Led ts t rest
  pub left : Left s t us rest

on_form : (ts : Tokens) (s : w.State) (us : Tokens) (f : w.Form) (rest : Tokens) → Led ts s us → form_read s us ≡ Some (f, rest) → On ts s us (w.next s f) rest
on_form ts s us f rest l e =
    let i = form_sound s us f rest e in
    record { led = record { forms = l.forms ++ f ∷ []; leads = lead_more w.start ts l.forms s us f rest l.leads i }; left = left_read s f us rest i }

pub led_on : (ts : Tokens) (s t : w.State) (us rest : Tokens) (x : Passed) → Led ts s us → pass_read s us ≡ Some (x, rest) → t ≡ after s x → On ts s us t rest
unfolding pass_read
led_on ts s t us rest x l e same =
    let a = bind_some (form_read s us) _ _ e in
    let pair : (passed_of a.0.0, a.0.1) ≡ (x, rest) = some_same a.2 in
    let passed : passed_of a.0.0 ≡ x = ap (λ (y : Passed × Tokens). y.0) pair in
    let behind : a.0.1 ≡ rest = ap (λ (y : Passed × Tokens). y.1) pair in
    let there : w.next s a.0.0 ≡ t = sym (after_same s a.0.0) ∙ ap (after s) passed ∙ sym same in
    let o = on_form ts s us a.0.0 a.0.1 l a.1 in
    subst (λ (z : Tokens). On ts s us t z) behind (subst (λ (z : w.State). On ts s us z a.0.1) there o)

unread_none : (s : w.State) (ts : Tokens) (o : Option (w.Form × Tokens)) → form_read s ts ≡ o → (o >>= passed_form) ≡ None → form_read s ts ≡ None
unread_none s ts None e h = e
unread_none s ts (Some x) e h = absurd (cc h)

pub fault : (ts us : Tokens) (s : w.State) (i : ℕ) → Led ts s us → pass_read s us ≡ None → i ≡ length ts - length us → 1 ≤ length us → length us ≤ length ts → w.IsFault ts i
unfolding pass_read
fault ts us s i l none number more within = record {
  forms = l.forms;
  state = s;
  rest = us;
  leads = l.leads;
  number = number;
  begins = omega (arith, number, more, within);
  unspelled = unread s us (unread_none s us (form_read s us) refl none);
}

pub walked : (ts us : Tokens) (s : w.State) → Led ts s us → length us ≡ 0 → IsWalked ts
walked ts [] s l h = record { forms = l.forms; state = s; leads = l.leads }
walked ts (x ∷ us) s l h = absurd (cc h)

-- ---- the same of pieces

pub record Turned (ps rest next : List Piece) (s t : w.State) : Type 0 where
  pub led : Led (shown ps) t (shown next)
  pub within : length next + room t.spot ≤ length ps
  pub smaller : 2 * length next + room t.spot < 2 * length rest + room s.spot

turned_by : (ps rest next : List Piece) (s t : w.State) → length rest ≤ length ps → On (shown ps) s (shown rest) t (shown next) → Turned ps rest next s t
turned_by ps rest next s t most o =
    let l1 = length_shown next in
    let l2 = length_shown rest in
    let h1 = o.left.within in
    let h2 = o.left.smaller in
    record { led = o.led; within = omega (arith, l1, l2, h1, most); smaller = omega (arith, l1, l2, h2) }

pub turned : (ps rest behind next : List Piece) (s t : w.State) (x : Passed) → Led (shown ps) s (shown rest) → pass_read s (shown rest) ≡ Some (x, shown behind) → t ≡ after s x → next ≡ behind → length rest ≤ length ps
    → Turned ps rest next s t
turned ps rest behind next s t x l e same more most =
    turned_by ps rest next s t most (subst (λ (z : List Piece). On (shown ps) s (shown rest) t (shown z)) (sym more) (led_on (shown ps) s t (shown rest) (shown behind) x l e same))

pub faulty : (ps rest : List Piece) (s : w.State) → Led (shown ps) s (shown rest) → pass_read s (shown rest) ≡ None → 1 ≤ length rest → length rest ≤ length ps → w.IsFault (shown ps) (length ps - length rest)
faulty ps rest s l none more most =
    let l1 = length_shown rest in
    let l2 = length_shown ps in
    fault (shown ps) (shown rest) s (length ps - length rest) l none (omega (arith, l1, l2)) (omega (arith, l1, more)) (omega (arith, l1, l2, most))

pub ended : (ps rest : List Piece) (s : w.State) → Led (shown ps) s (shown rest) → length rest ≡ 0 → IsWalked (shown ps)
ended ps rest s l none = let l1 = length_shown rest in walked (shown ps) (shown rest) s l (omega (arith, l1, none))

pub ruleset walks = (led_start, length_shown)

-- ---- the tokens of a file as pieces

pub pieces_long : (ps : List Piece) (ts : List JToken) → shown ps ≡ seen ts → length ps ≡ length ts
pieces_long ps ts e =
    let l1 = ap length e in
    omega (arith, l1, length_shown ps, length_seen ts)

pub ruleset files = (pieces_long)
