-- A run, a token at a time.
use Rattle.std.proofs.Common.{◌≡◌, ◌+◌, ℕ, suc, List, [], ◌∷◌, ◌++◌, length, take, drop, Some, None, refl, ap, sym, ◌∙◌, arith}
use Rattle.std.specs.List.{take-map, drop-map}
use Rattle.std.proofs.Math.Seq.{take-append_seam, drop-append_seam}
use Rattle.java_tree.specs.Seen.{Token, Tokens}
use Rattle.java_expr_grammar.proofs.LawsToCite.{some_same}
use Rattle.java_token_cursor.specs.declared.piece.Piece.{Piece}
use Rattle.java_token_cursor.specs.Shown.{shown, piece_shown}
use Rattle.java_fault_grammar.specs.Runs as r
use Rattle.java_fault_finder.specs.Ends.{kinded}

turn_on : (x : Token) (ts : Tokens) (t : r.Turn) (go : r.Place → r.Run) (q : r.Place) → t ≡ r.Turn.On q → r.run_turn x ts t go ≡ r.with_token x (go q)
turn_on x ts t go q e = ap (λ (u : r.Turn). r.run_turn x ts u go) e

turn_stop : (x : Token) (ts : Tokens) (t : r.Turn) (go : r.Place → r.Run) (end : r.End) → t ≡ r.Turn.Stop end → r.run_turn x ts t go ≡ record { text = x ∷ []; end = end; rest = ts }
turn_stop x ts t go end e = ap (λ (u : r.Turn). r.run_turn x ts u go) e

turn_left : (x : Token) (ts : Tokens) (t : r.Turn) (go : r.Place → r.Run) → t ≡ r.Turn.Left → r.run_turn x ts t go ≡ record { text = []; end = r.End.Level; rest = x ∷ ts }
turn_left x ts t go e = ap (λ (u : r.Turn). r.run_turn x ts u go) e

one_more : (a b c : ℕ) → a ≡ suc b → b ≡ c → a ≡ c + 1
one_more a b c h g = omega (arith, h, g)

on : (p q : r.Place) (ts us : Tokens) (k : r.Kind) → kinded ts ≡ Some (k, us) → r.turned p k ≡ r.Turn.On q
    → (length (r.run_from p ts).text ≡ length (r.run_from q us).text + 1) × ((r.run_from p ts).end ≡ (r.run_from q us).end)
unfolding r.run_from
on p q [] us k e t = absurd (cc e)
on p q (x ∷ ts) us k e t =
    let same : (r.kind x, ts) ≡ (k, us) = some_same e in
    let kinds : r.kind x ≡ k = ap (λ (y : r.Kind × Tokens). y.0) same in
    let rests : ts ≡ us = ap (λ (y : r.Kind × Tokens). y.1) same in
    let one : r.run_from p (x ∷ ts) ≡ r.with_token x (r.run_from q ts) = turn_on x ts (r.turned p (r.kind x)) (λ q. r.run_from q ts) q (ap (r.turned p) kinds ∙ t) in (
      one_more (length (r.run_from p (x ∷ ts)).text) (length (r.run_from q ts).text) (length (r.run_from q us).text) (ap (λ (z : r.Run). length z.text) one) (ap (λ (l : Tokens). length (r.run_from q l).text) rests),
      ap (λ (z : r.Run). z.end) one ∙ ap (λ (l : Tokens). (r.run_from q l).end) rests,
    )

stop : (p : r.Place) (ts us : Tokens) (k : r.Kind) (end : r.End) → kinded ts ≡ Some (k, us) → r.turned p k ≡ r.Turn.Stop end
    → (length (r.run_from p ts).text ≡ 1) × ((r.run_from p ts).end ≡ end)
unfolding r.run_from
stop p [] us k end e t = absurd (cc e)
stop p (x ∷ ts) us k end e t =
    let same : (r.kind x, ts) ≡ (k, us) = some_same e in
    let kinds : r.kind x ≡ k = ap (λ (y : r.Kind × Tokens). y.0) same in
    let one = turn_stop x ts (r.turned p (r.kind x)) (λ q. r.run_from q ts) end (ap (r.turned p) kinds ∙ t) in
    (ap (λ (z : r.Run). length z.text) one, ap (λ (z : r.Run). z.end) one)

left : (p : r.Place) (ts us : Tokens) (k : r.Kind) → kinded ts ≡ Some (k, us) → r.turned p k ≡ r.Turn.Left
    → (length (r.run_from p ts).text ≡ 0) × ((r.run_from p ts).end ≡ r.End.Level)
unfolding r.run_from
left p [] us k e t = absurd (cc e)
left p (x ∷ ts) us k e t =
    let same : (r.kind x, ts) ≡ (k, us) = some_same e in
    let kinds : r.kind x ≡ k = ap (λ (y : r.Kind × Tokens). y.0) same in
    let one = turn_left x ts (r.turned p (r.kind x)) (λ q. r.run_from q ts) (ap (r.turned p) kinds ∙ t) in
    (ap (λ (z : r.Run). length z.text) one, ap (λ (z : r.Run). z.end) one)

pub on_long : (p q : r.Place) (ts us : Tokens) (k : r.Kind) → kinded ts ≡ Some (k, us) → r.turned p k ≡ r.Turn.On q → length (r.run_from p ts).text ≡ length (r.run_from q us).text + 1
on_long p q ts us k e t = (on p q ts us k e t).0

pub on_end : (p q : r.Place) (ts us : Tokens) (k : r.Kind) → kinded ts ≡ Some (k, us) → r.turned p k ≡ r.Turn.On q → (r.run_from p ts).end ≡ (r.run_from q us).end
on_end p q ts us k e t = (on p q ts us k e t).1

pub stop_long : (p : r.Place) (ts us : Tokens) (k : r.Kind) (end : r.End) → kinded ts ≡ Some (k, us) → r.turned p k ≡ r.Turn.Stop end → length (r.run_from p ts).text ≡ 1
stop_long p ts us k end e t = (stop p ts us k end e t).0

pub stop_end : (p : r.Place) (ts us : Tokens) (k : r.Kind) (end : r.End) → kinded ts ≡ Some (k, us) → r.turned p k ≡ r.Turn.Stop end → (r.run_from p ts).end ≡ end
stop_end p ts us k end e t = (stop p ts us k end e t).1

pub left_long : (p : r.Place) (ts us : Tokens) (k : r.Kind) → kinded ts ≡ Some (k, us) → r.turned p k ≡ r.Turn.Left → length (r.run_from p ts).text ≡ 0
left_long p ts us k e t = (left p ts us k e t).0

pub left_end : (p : r.Place) (ts us : Tokens) (k : r.Kind) → kinded ts ≡ Some (k, us) → r.turned p k ≡ r.Turn.Left → (r.run_from p ts).end ≡ r.End.Level
left_end p ts us k e t = (left p ts us k e t).1

pub none_long : (p : r.Place) (ts : Tokens) → kinded ts ≡ None → length (r.run_from p ts).text ≡ 0
unfolding r.run_from
none_long p [] e = refl
none_long p (x ∷ ts) e = absurd (cc e)

pub none_end : (p : r.Place) (ts : Tokens) → kinded ts ≡ None → (r.run_from p ts).end ≡ r.End.Level
unfolding r.run_from
none_end p [] e = refl
none_end p (x ∷ ts) e = absurd (cc e)

pub empty_long : (p : r.Place) (xs : List Piece) → length xs ≡ 0 → length (r.run_from p (shown xs)).text ≡ 0
unfolding r.run_from shown
empty_long p [] e = refl
empty_long p (x ∷ xs) e = absurd (cc e)

pub empty_end : (p : r.Place) (xs : List Piece) → length xs ≡ 0 → (r.run_from p (shown xs)).end ≡ r.End.Level
unfolding r.run_from shown
empty_end p [] e = refl
empty_end p (x ∷ xs) e = absurd (cc e)

-- ---- the run and what follows it

turn_parts : (x : Token) (ts : Tokens) (t : r.Turn) (go : r.Place → r.Run) → ((p : r.Place) → ts ≡ (go p).text ++ (go p).rest) → x ∷ ts ≡ (r.run_turn x ts t go).text ++ (r.run_turn x ts t go).rest
turn_parts x ts (r.Turn.On p) go h = ap (λ (l : Tokens). x ∷ l) (h p)
turn_parts x ts (r.Turn.Stop end) go h = refl
turn_parts x ts r.Turn.Left go h = refl

parts : (p : r.Place) (ts : Tokens) → ts ≡ (r.run_from p ts).text ++ (r.run_from p ts).rest
unfolding r.run_from
parts p [] = refl
parts p (x ∷ ts) = turn_parts x ts (r.turned p (r.kind x)) (λ q. r.run_from q ts) (λ q. parts q ts)

pub run_split : (xs text rest : List Piece) (n : ℕ) (end : r.End) → n ≡ length (r.run (shown xs)).text → end ≡ (r.run (shown xs)).end → text ≡ take n xs → rest ≡ drop n xs
    → record { text = shown text; end = end; rest = shown rest } ≡ r.run (shown xs)
unfolding shown
run_split xs text rest n end long ends front back =
    let whole = r.run (shown xs) in
    let p : shown xs ≡ whole.text ++ whole.rest = parts r.start (shown xs) in
    let t : shown text ≡ whole.text =
    ap shown front ∙ sym (take-map piece_shown n xs) ∙ ap (λ (k : ℕ). take k (shown xs)) long ∙ ap (λ (l : Tokens). take (length whole.text) l) p ∙ take-append_seam whole.text whole.rest in
    let b : shown rest ≡ whole.rest =
    ap shown back ∙ sym (drop-map piece_shown n xs) ∙ ap (λ (k : ℕ). drop k (shown xs)) long ∙ ap (λ (l : Tokens). drop (length whole.text) l) p ∙ drop-append_seam whole.text whole.rest in
    ap (λ (l : Tokens). record { text = l; end = end; rest = shown rest }) t
    ∙ ap (λ (l : Tokens). record { text = whole.text; end = end; rest = l }) b
    ∙ ap (λ (e : r.End). record { text = whole.text; end = e; rest = whole.rest }) ends

pub ruleset steps = (on_long, on_end, stop_long, stop_end, left_long, left_end, none_long, none_end, empty_long, empty_end)
