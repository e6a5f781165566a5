-- Every statement, body, group and catch is seen, and nothing else.
use Rattle.std.proofs.Common.{◌≡◌, ℕ, List, ◌++◌, map, refl, ap, sym, subst, ◌∙◌}
use Rattle.std.specs.List.{AllByRecursion, flat_map}
use Rattle.java_typed.specs.declared.types.TWritten.{TWritten}
use Rattle.java_typed.specs.declared.exprs.TExpr.{TExpr}
use Rattle.java_typed.specs.declared.statements.TBody.{TBody, roll-TBody, out-roll-TBody, map-TBody, fold-roll-TBody}
use Rattle.java_typed.specs.declared.statements.TBody.TheOpen.{TBody-F, TStatement-F, TCaseGroup-F, TCatch-F}
use Rattle.java_typed.specs.declared.statements.TBody.TheFolds.{map-TStatement, map-TCaseGroup, map-TCatch, ind-TBody, ind-TStatement, every-TBody, every-TStatement, every-TCaseGroup, every-TCatch, every_made-TBody, every_made-TStatement, every_made-TCaseGroup, every_made-TCatch, every_held-TBody, every_held-TStatement, every_held-TCaseGroup, every_held-TCatch, every_here-TBody, every_here-TStatement, every_here-TCaseGroup, every_here-TCatch}
use Rattle.java_typed.specs.declared.statements.TStatement.{TStatement, roll-TStatement, out-roll-TStatement, fold-roll-TStatement}
use Rattle.java_typed.specs.declared.statements.TCaseGroup.{TCaseGroup, roll-TCaseGroup, out-roll-TCaseGroup, fold-TCaseGroup, fold-roll-TCaseGroup}
use Rattle.java_typed.specs.declared.statements.TCatch.{TCatch, roll-TCatch, out-roll-TCatch, fold-TCatch, fold-roll-TCatch}
use Rattle.java_walks.specs.Texts.{of_option, of_declarator, of_simple, of_start, of_label, of_lock, body_by, group_by, catch_by, statement_by, of_statement, of_body}
use Rattle.java_walks.specs.Nodes.{own_body, own_statement, own_group, own_catch}
use Rattle.java_walks.proofs.Nodes.{all_left, all_right, all_both, from_flat, to_flat, from_map, to_map, all_by, Held, proofs_of, held_list}

-- what holds of the parts of a form
module _ {B S G C : Type 0} (in_body : B → Type 0) (in_statement : S → Type 0) (in_group : G → Type 0) (in_catch : C → Type 0) where
  abbrev InBody : TBody-F B S G C → Type 0
  InBody (TBody-F.Statements xs) = AllByRecursion in_statement xs
  InBody (TBody-F.Class number) = Unit {0}

  abbrev InGroup : TCaseGroup-F B S G C → Type 0
  InGroup x = AllByRecursion in_statement x.statements

  abbrev InCatch : TCatch-F B S G C → Type 0
  InCatch x = AllByRecursion in_statement x.statements

  abbrev InStatement : TStatement-F B S G C → Type 0
  InStatement (TStatement-F.Simple at x bodies) = AllByRecursion in_body bodies
  InStatement (TStatement-F.Block at xs right) = AllByRecursion in_statement xs
  InStatement (TStatement-F.Labeled at own x) = in_statement x
  InStatement (TStatement-F.If at c bodies x) = AllByRecursion in_body bodies × in_statement x
  InStatement (TStatement-F.IfElse at c bodies x y) = AllByRecursion in_body bodies × in_statement x × in_statement y
  InStatement (TStatement-F.While at c bodies x) = AllByRecursion in_body bodies × in_statement x
  InStatement (TStatement-F.Do at x c bodies) = in_statement x × AllByRecursion in_body bodies
  InStatement (TStatement-F.For at start c updates bodies x) = AllByRecursion in_body bodies × in_statement x
  InStatement (TStatement-F.Each at variable xs bodies x) = AllByRecursion in_body bodies × in_statement x
  InStatement (TStatement-F.Switch at x bodies gs) = AllByRecursion in_body bodies × AllByRecursion in_group gs
  InStatement (TStatement-F.Synchronized at x bodies xs) = AllByRecursion in_body bodies × AllByRecursion in_statement xs
  InStatement (TStatement-F.Try at xs catches last lasts) = AllByRecursion in_statement xs × AllByRecursion in_catch catches × AllByRecursion in_statement lasts

module _ {B S G C : Type 0} (EB : B → Type 0) (ES : S → Type 0) (EG : G → Type 0) (EC : C → Type 0) where
  abbrev HB : Type 0
  HB = Held EB

  abbrev HS : Type 0
  HS = Held ES

  abbrev HG : Type 0
  HG = Held EG

  abbrev HC : Type 0
  HC = Held EC

  -- ---- the parts are all that a form holds

  abbrev body_map : TBody-F HB HS HG HC → TBody-F B S G C
  body_map = map-TBody HB HS HG HC B S G C (λ e. e.0) (λ e. e.0) (λ e. e.0) (λ e. e.0)

  abbrev statement_map : TStatement-F HB HS HG HC → TStatement-F B S G C
  statement_map = map-TStatement HB HS HG HC B S G C (λ e. e.0) (λ e. e.0) (λ e. e.0) (λ e. e.0)

  abbrev group_map : TCaseGroup-F HB HS HG HC → TCaseGroup-F B S G C
  group_map = map-TCaseGroup HB HS HG HC B S G C (λ e. e.0) (λ e. e.0) (λ e. e.0) (λ e. e.0)

  abbrev catch_map : TCatch-F HB HS HG HC → TCatch-F B S G C
  catch_map = map-TCatch HB HS HG HC B S G C (λ e. e.0) (λ e. e.0) (λ e. e.0) (λ e. e.0)

  held_body : (x : TBody-F B S G C) → InBody EB ES EG EC x → (y : TBody-F HB HS HG HC) × (body_map y ≡ x)
  held_body (TBody-F.Statements xs) h = let l = held_list ES xs h in (TBody-F.Statements l.0, ap (λ (z : List S). TBody-F.Statements z) l.1)
  held_body (TBody-F.Class number) h = (TBody-F.Class number, refl)

  held_group : (x : TCaseGroup-F B S G C) → InGroup EB ES EG EC x → (y : TCaseGroup-F HB HS HG HC) × (group_map y ≡ x)
  held_group x h = let l = held_list ES x.statements h in (record { labels = x.labels; statements = l.0 }, ap (λ (z : List S). record { labels = x.labels; statements = z }) l.1)

  held_catch : (x : TCatch-F B S G C) → InCatch EB ES EG EC x → (y : TCatch-F HB HS HG HC) × (catch_map y ≡ x)
  held_catch x h = let l = held_list ES x.statements h in (record { at = x.at; caught = x.caught; statements = l.0 }, ap (λ (z : List S). record { at = x.at; caught = x.caught; statements = z }) l.1)

  held_statement : (x : TStatement-F B S G C) → InStatement EB ES EG EC x → (y : TStatement-F HB HS HG HC) × (statement_map y ≡ x)
  held_statement (TStatement-F.Simple at x bodies) h = let l0 = held_list EB bodies h in (TStatement-F.Simple at x l0.0, ap (λ (z : List B). TStatement-F.Simple at x z) l0.1)
  held_statement (TStatement-F.Block at xs right) h = let l0 = held_list ES xs h in (TStatement-F.Block at l0.0 right, ap (λ (z : List S). TStatement-F.Block at z right) l0.1)
  held_statement (TStatement-F.Labeled at own x) h = (TStatement-F.Labeled at own (x, h), refl)
  held_statement (TStatement-F.If at c bodies x) h = let l0 = held_list EB bodies h.0 in (TStatement-F.If at c l0.0 (x, h.1), ap (λ (z : List B). TStatement-F.If at c z x) l0.1)
  held_statement (TStatement-F.IfElse at c bodies x y) h = let l0 = held_list EB bodies h.0 in (TStatement-F.IfElse at c l0.0 (x, h.1) (y, h.2), ap (λ (z : List B). TStatement-F.IfElse at c z x y) l0.1)
  held_statement (TStatement-F.While at c bodies x) h = let l0 = held_list EB bodies h.0 in (TStatement-F.While at c l0.0 (x, h.1), ap (λ (z : List B). TStatement-F.While at c z x) l0.1)
  held_statement (TStatement-F.Do at x c bodies) h = let l1 = held_list EB bodies h.1 in (TStatement-F.Do at (x, h.0) c l1.0, ap (λ (z : List B). TStatement-F.Do at x c z) l1.1)
  held_statement (TStatement-F.For at start c updates bodies x) h = let l0 = held_list EB bodies h.0 in (TStatement-F.For at start c updates l0.0 (x, h.1), ap (λ (z : List B). TStatement-F.For at start c updates z x) l0.1)
  held_statement (TStatement-F.Each at variable xs bodies x) h = let l0 = held_list EB bodies h.0 in (TStatement-F.Each at variable xs l0.0 (x, h.1), ap (λ (z : List B). TStatement-F.Each at variable xs z x) l0.1)
  held_statement (TStatement-F.Switch at x bodies gs) h = let l0 = held_list EB bodies h.0 in let l1 = held_list EG gs h.1 in (TStatement-F.Switch at x l0.0 l1.0, ap (λ (z : List B). TStatement-F.Switch at x z (map (λ (e : Held EG). e.0) l1.0)) l0.1 ∙ ap (λ (z : List G). TStatement-F.Switch at x bodies z) l1.1)
  held_statement (TStatement-F.Synchronized at x bodies xs) h = let l0 = held_list EB bodies h.0 in let l1 = held_list ES xs h.1 in (TStatement-F.Synchronized at x l0.0 l1.0, ap (λ (z : List B). TStatement-F.Synchronized at x z (map (λ (e : Held ES). e.0) l1.0)) l0.1 ∙ ap (λ (z : List S). TStatement-F.Synchronized at x bodies z) l1.1)
  held_statement (TStatement-F.Try at xs catches last lasts) h = let l0 = held_list ES xs h.0 in let l1 = held_list EC catches h.1 in let l2 = held_list ES lasts h.2 in (TStatement-F.Try at l0.0 l1.0 last l2.0, ap (λ (z : List S). TStatement-F.Try at z (map (λ (e : Held EC). e.0) l1.0) last (map (λ (e : Held ES). e.0) l2.0)) l0.1 ∙ ap (λ (z : List C). TStatement-F.Try at xs z last (map (λ (e : Held ES). e.0) l2.0)) l1.1 ∙ ap (λ (z : List S). TStatement-F.Try at xs catches last z) l2.1)

  -- ---- the proofs that stand beside them

  body_proofs : (y : TBody-F HB HS HG HC) → InBody EB ES EG EC (body_map y)
  body_proofs (TBody-F.Statements xs) = proofs_of ES xs
  body_proofs (TBody-F.Class number) = tt

  group_proofs : (y : TCaseGroup-F HB HS HG HC) → InGroup EB ES EG EC (group_map y)
  group_proofs y = proofs_of ES y.statements

  catch_proofs : (y : TCatch-F HB HS HG HC) → InCatch EB ES EG EC (catch_map y)
  catch_proofs y = proofs_of ES y.statements

  statement_proofs : (y : TStatement-F HB HS HG HC) → InStatement EB ES EG EC (statement_map y)
  statement_proofs (TStatement-F.Simple at x bodies) = proofs_of EB bodies
  statement_proofs (TStatement-F.Block at xs right) = proofs_of ES xs
  statement_proofs (TStatement-F.Labeled at own x) = x.1
  statement_proofs (TStatement-F.If at c bodies x) = (proofs_of EB bodies, x.1)
  statement_proofs (TStatement-F.IfElse at c bodies x y) = (proofs_of EB bodies, x.1, y.1)
  statement_proofs (TStatement-F.While at c bodies x) = (proofs_of EB bodies, x.1)
  statement_proofs (TStatement-F.Do at x c bodies) = (x.1, proofs_of EB bodies)
  statement_proofs (TStatement-F.For at start c updates bodies x) = (proofs_of EB bodies, x.1)
  statement_proofs (TStatement-F.Each at variable xs bodies x) = (proofs_of EB bodies, x.1)
  statement_proofs (TStatement-F.Switch at x bodies gs) = (proofs_of EB bodies, proofs_of EG gs)
  statement_proofs (TStatement-F.Synchronized at x bodies xs) = (proofs_of EB bodies, proofs_of ES xs)
  statement_proofs (TStatement-F.Try at xs catches last lasts) = (proofs_of ES xs, proofs_of EC catches, proofs_of ES lasts)

-- ---- a step for each part

module _ {B S G C : Type 0} (EB GB : B → Type 0) (ES GS : S → Type 0) (EG GG : G → Type 0) (EC GC : C → Type 0) where
  body_by_steps : (x : TBody-F B S G C) → InBody (λ z. EB z → GB z) (λ z. ES z → GS z) (λ z. EG z → GG z) (λ z. EC z → GC z) x → InBody EB ES EG EC x → InBody GB GS GG GC x
  body_by_steps (TBody-F.Statements xs) s h = all_by ES GS xs s h
  body_by_steps (TBody-F.Class number) s h = tt

  statement_by_steps : (x : TStatement-F B S G C) → InStatement (λ z. EB z → GB z) (λ z. ES z → GS z) (λ z. EG z → GG z) (λ z. EC z → GC z) x → InStatement EB ES EG EC x → InStatement GB GS GG GC x
  statement_by_steps (TStatement-F.Simple at x bodies) s h = all_by EB GB bodies s h
  statement_by_steps (TStatement-F.Block at xs right) s h = all_by ES GS xs s h
  statement_by_steps (TStatement-F.Labeled at own x) s h = s h
  statement_by_steps (TStatement-F.If at c bodies x) s h = (all_by EB GB bodies s.0 h.0, s.1 h.1)
  statement_by_steps (TStatement-F.IfElse at c bodies x y) s h = (all_by EB GB bodies s.0 h.0, s.1 h.1, s.2 h.2)
  statement_by_steps (TStatement-F.While at c bodies x) s h = (all_by EB GB bodies s.0 h.0, s.1 h.1)
  statement_by_steps (TStatement-F.Do at x c bodies) s h = (s.0 h.0, all_by EB GB bodies s.1 h.1)
  statement_by_steps (TStatement-F.For at start c updates bodies x) s h = (all_by EB GB bodies s.0 h.0, s.1 h.1)
  statement_by_steps (TStatement-F.Each at variable xs bodies x) s h = (all_by EB GB bodies s.0 h.0, s.1 h.1)
  statement_by_steps (TStatement-F.Switch at x bodies gs) s h = (all_by EB GB bodies s.0 h.0, all_by EG GG gs s.1 h.1)
  statement_by_steps (TStatement-F.Synchronized at x bodies xs) s h = (all_by EB GB bodies s.0 h.0, all_by ES GS xs s.1 h.1)
  statement_by_steps (TStatement-F.Try at xs catches last lasts) s h = (all_by ES GS xs s.0 h.0, all_by EC GC catches s.1 h.1, all_by ES GS lasts s.2 h.2)

module _ {A : Type 0} (of_value : TExpr → List A) (of_type : TWritten → List A) (of_inner : ℕ → List A) where
  unfoldable of_group : TCaseGroup → List A
  of_group = fold-TCaseGroup (List A) (List A) (List A) (List A) (body_by of_value of_type of_inner) (statement_by of_value of_type of_inner) (group_by of_value of_type of_inner) (catch_by of_value of_type of_inner)

  unfoldable of_catch : TCatch → List A
  of_catch = fold-TCatch (List A) (List A) (List A) (List A) (body_by of_value of_type of_inner) (statement_by of_value of_type of_inner) (group_by of_value of_type of_inner) (catch_by of_value of_type of_inner)

  abbrev bd : TBody → List A
  bd = of_body of_value of_type of_inner

  abbrev st : TStatement → List A
  st = of_statement of_value of_type of_inner

  body_form : (x : TBody-F TBody TStatement TCaseGroup TCatch) → bd (roll-TBody x) ≡ body_by of_value of_type of_inner (map-TBody TBody TStatement TCaseGroup TCatch (List A) (List A) (List A) (List A) bd st of_group of_catch x)
  unfolding of_body of_statement of_group of_catch
  body_form x = fold-roll-TBody (List A) (List A) (List A) (List A) (body_by of_value of_type of_inner) (statement_by of_value of_type of_inner) (group_by of_value of_type of_inner) (catch_by of_value of_type of_inner) x

  statement_form : (x : TStatement-F TBody TStatement TCaseGroup TCatch) → st (roll-TStatement x) ≡ statement_by of_value of_type of_inner (map-TStatement TBody TStatement TCaseGroup TCatch (List A) (List A) (List A) (List A) bd st of_group of_catch x)
  unfolding of_body of_statement of_group of_catch
  statement_form x = fold-roll-TStatement (List A) (List A) (List A) (List A) (body_by of_value of_type of_inner) (statement_by of_value of_type of_inner) (group_by of_value of_type of_inner) (catch_by of_value of_type of_inner) x

  group_form : (x : TCaseGroup-F TBody TStatement TCaseGroup TCatch) → of_group (roll-TCaseGroup x) ≡ group_by of_value of_type of_inner (map-TCaseGroup TBody TStatement TCaseGroup TCatch (List A) (List A) (List A) (List A) bd st of_group of_catch x)
  unfolding of_body of_statement of_group of_catch
  group_form x = fold-roll-TCaseGroup (List A) (List A) (List A) (List A) (body_by of_value of_type of_inner) (statement_by of_value of_type of_inner) (group_by of_value of_type of_inner) (catch_by of_value of_type of_inner) x

  catch_form : (x : TCatch-F TBody TStatement TCaseGroup TCatch) → of_catch (roll-TCatch x) ≡ catch_by of_value of_type of_inner (map-TCatch TBody TStatement TCaseGroup TCatch (List A) (List A) (List A) (List A) bd st of_group of_catch x)
  unfolding of_body of_statement of_group of_catch
  catch_form x = fold-roll-TCatch (List A) (List A) (List A) (List A) (body_by of_value of_type of_inner) (statement_by of_value of_type of_inner) (group_by of_value of_type of_inner) (catch_by of_value of_type of_inner) x

  abbrev bodies_told : List TBody → List A
  bodies_told xs = flat_map (λ (l : List A). l) (map bd xs)

  abbrev statements_told : List TStatement → List A
  statements_told xs = flat_map (λ (l : List A). l) (map st xs)

  abbrev groups_told : List TCaseGroup → List A
  groups_told xs = flat_map (λ (l : List A). l) (map of_group xs)

  abbrev catches_told : List TCatch → List A
  catches_told xs = flat_map (λ (l : List A). l) (map of_catch xs)

  module _ (P : A → Type 0) where
    abbrev TB : TBody → Type 0
    TB x = AllByRecursion P (bd x)

    abbrev TS : TStatement → Type 0
    TS x = AllByRecursion P (st x)

    abbrev TG : TCaseGroup → Type 0
    TG x = AllByRecursion P (of_group x)

    abbrev TC : TCatch → Type 0
    TC x = AllByRecursion P (of_catch x)

    from_bodies : (xs : List TBody) → AllByRecursion P (bodies_told xs) → AllByRecursion TB xs
    from_bodies xs h = from_map (AllByRecursion P) bd xs (from_flat P (λ (l : List A). l) (map bd xs) h)

    from_statements : (xs : List TStatement) → AllByRecursion P (statements_told xs) → AllByRecursion TS xs
    from_statements xs h = from_map (AllByRecursion P) st xs (from_flat P (λ (l : List A). l) (map st xs) h)

    from_groups : (xs : List TCaseGroup) → AllByRecursion P (groups_told xs) → AllByRecursion TG xs
    from_groups xs h = from_map (AllByRecursion P) of_group xs (from_flat P (λ (l : List A). l) (map of_group xs) h)

    from_catches : (xs : List TCatch) → AllByRecursion P (catches_told xs) → AllByRecursion TC xs
    from_catches xs h = from_map (AllByRecursion P) of_catch xs (from_flat P (λ (l : List A). l) (map of_catch xs) h)

    to_bodies : (xs : List TBody) → AllByRecursion TB xs → AllByRecursion P (bodies_told xs)
    to_bodies xs h = to_flat P (λ (l : List A). l) (map bd xs) (to_map (AllByRecursion P) bd xs h)

    to_statements : (xs : List TStatement) → AllByRecursion TS xs → AllByRecursion P (statements_told xs)
    to_statements xs h = to_flat P (λ (l : List A). l) (map st xs) (to_map (AllByRecursion P) st xs h)

    to_groups : (xs : List TCaseGroup) → AllByRecursion TG xs → AllByRecursion P (groups_told xs)
    to_groups xs h = to_flat P (λ (l : List A). l) (map of_group xs) (to_map (AllByRecursion P) of_group xs h)

    to_catches : (xs : List TCatch) → AllByRecursion TC xs → AllByRecursion P (catches_told xs)
    to_catches xs h = to_flat P (λ (l : List A). l) (map of_catch xs) (to_map (AllByRecursion P) of_catch xs h)

    -- ---- what a form tells itself, and what its parts tell

    abbrev OwnB : TBody-F TBody TStatement TCaseGroup TCatch → Type 0
    OwnB x = AllByRecursion P (own_body of_value of_type of_inner x)

    abbrev OwnS : TStatement-F TBody TStatement TCaseGroup TCatch → Type 0
    OwnS x = AllByRecursion P (own_statement of_value of_type of_inner x)

    abbrev OwnG : TCaseGroup-F TBody TStatement TCaseGroup TCatch → Type 0
    OwnG x = AllByRecursion P (own_group of_value of_type of_inner x)

    abbrev OwnC : TCatch-F TBody TStatement TCaseGroup TCatch → Type 0
    OwnC x = AllByRecursion P (own_catch of_value of_type of_inner x)

    body_apart : (x : TBody-F TBody TStatement TCaseGroup TCatch) → AllByRecursion P (body_by of_value of_type of_inner (map-TBody TBody TStatement TCaseGroup TCatch (List A) (List A) (List A) (List A) bd st of_group of_catch x)) → OwnB x × InBody TB TS TG TC x
    body_apart (TBody-F.Statements xs) h = (tt, from_statements xs h)
    body_apart (TBody-F.Class number) h = (h, tt)

    body_together : (x : TBody-F TBody TStatement TCaseGroup TCatch) → OwnB x → InBody TB TS TG TC x → AllByRecursion P (body_by of_value of_type of_inner (map-TBody TBody TStatement TCaseGroup TCatch (List A) (List A) (List A) (List A) bd st of_group of_catch x))
    body_together (TBody-F.Statements xs) h k = to_statements xs k
    body_together (TBody-F.Class number) h k = h

    statement_apart : (x : TStatement-F TBody TStatement TCaseGroup TCatch) → AllByRecursion P (statement_by of_value of_type of_inner (map-TStatement TBody TStatement TCaseGroup TCatch (List A) (List A) (List A) (List A) bd st of_group of_catch x)) → OwnS x × InStatement TB TS TG TC x
    statement_apart (TStatement-F.Simple at x bodies) h = let h1 : AllByRecursion P (bodies_told bodies) = all_right P (of_simple of_value of_type of_inner x) _ h in ((all_left P (of_simple of_value of_type of_inner x) _ h), from_bodies bodies h1)
    statement_apart (TStatement-F.Block at xs right) h = (tt, from_statements xs h)
    statement_apart (TStatement-F.Labeled at own x) h = (tt, h)
    statement_apart (TStatement-F.If at c bodies x) h = let h1 : AllByRecursion P (bodies_told bodies ++ st x) = all_right P (of_value c) _ h in let h2 : AllByRecursion P (st x) = all_right P (bodies_told bodies) _ h1 in ((all_left P (of_value c) _ h), (from_bodies bodies (all_left P (bodies_told bodies) _ h1), h2))
    statement_apart (TStatement-F.IfElse at c bodies x y) h = let h1 : AllByRecursion P (bodies_told bodies ++ (st x ++ st y)) = all_right P (of_value c) _ h in let h2 : AllByRecursion P (st x ++ st y) = all_right P (bodies_told bodies) _ h1 in let h3 : AllByRecursion P (st y) = all_right P (st x) _ h2 in ((all_left P (of_value c) _ h), (from_bodies bodies (all_left P (bodies_told bodies) _ h1), (all_left P (st x) _ h2), h3))
    statement_apart (TStatement-F.While at c bodies x) h = let h1 : AllByRecursion P (bodies_told bodies ++ st x) = all_right P (of_value c) _ h in let h2 : AllByRecursion P (st x) = all_right P (bodies_told bodies) _ h1 in ((all_left P (of_value c) _ h), (from_bodies bodies (all_left P (bodies_told bodies) _ h1), h2))
    statement_apart (TStatement-F.Do at x c bodies) h = let h1 : AllByRecursion P (of_value c ++ bodies_told bodies) = all_right P (st x) _ h in let h2 : AllByRecursion P (bodies_told bodies) = all_right P (of_value c) _ h1 in ((all_left P (of_value c) _ h1), ((all_left P (st x) _ h), from_bodies bodies h2))
    statement_apart (TStatement-F.For at start c updates bodies x) h = let h1 : AllByRecursion P (of_option of_value of_type of_inner c ++ (flat_map of_value updates ++ (bodies_told bodies ++ st x))) = all_right P (of_start of_value of_type of_inner start) _ h in let h2 : AllByRecursion P (flat_map of_value updates ++ (bodies_told bodies ++ st x)) = all_right P (of_option of_value of_type of_inner c) _ h1 in let h3 : AllByRecursion P (bodies_told bodies ++ st x) = all_right P (flat_map of_value updates) _ h2 in let h4 : AllByRecursion P (st x) = all_right P (bodies_told bodies) _ h3 in ((all_both P (of_start of_value of_type of_inner start) (of_option of_value of_type of_inner c ++ flat_map of_value updates) (all_left P (of_start of_value of_type of_inner start) _ h) (all_both P (of_option of_value of_type of_inner c) (flat_map of_value updates) (all_left P (of_option of_value of_type of_inner c) _ h1) (all_left P (flat_map of_value updates) _ h2))), (from_bodies bodies (all_left P (bodies_told bodies) _ h3), h4))
    statement_apart (TStatement-F.Each at variable xs bodies x) h = let h1 : AllByRecursion P (of_value xs ++ (bodies_told bodies ++ st x)) = all_right P (of_declarator of_value of_type of_inner variable) _ h in let h2 : AllByRecursion P (bodies_told bodies ++ st x) = all_right P (of_value xs) _ h1 in let h3 : AllByRecursion P (st x) = all_right P (bodies_told bodies) _ h2 in ((all_both P (of_declarator of_value of_type of_inner variable) (of_value xs) (all_left P (of_declarator of_value of_type of_inner variable) _ h) (all_left P (of_value xs) _ h1)), (from_bodies bodies (all_left P (bodies_told bodies) _ h2), h3))
    statement_apart (TStatement-F.Switch at x bodies gs) h = let h1 : AllByRecursion P (bodies_told bodies ++ groups_told gs) = all_right P (of_value x) _ h in let h2 : AllByRecursion P (groups_told gs) = all_right P (bodies_told bodies) _ h1 in ((all_left P (of_value x) _ h), (from_bodies bodies (all_left P (bodies_told bodies) _ h1), from_groups gs h2))
    statement_apart (TStatement-F.Synchronized at x bodies xs) h = let h1 : AllByRecursion P (bodies_told bodies ++ statements_told xs) = all_right P (of_lock of_value of_type of_inner x) _ h in let h2 : AllByRecursion P (statements_told xs) = all_right P (bodies_told bodies) _ h1 in ((all_left P (of_lock of_value of_type of_inner x) _ h), (from_bodies bodies (all_left P (bodies_told bodies) _ h1), from_statements xs h2))
    statement_apart (TStatement-F.Try at xs catches last lasts) h = let h1 : AllByRecursion P (catches_told catches ++ statements_told lasts) = all_right P (statements_told xs) _ h in let h2 : AllByRecursion P (statements_told lasts) = all_right P (catches_told catches) _ h1 in (tt, (from_statements xs (all_left P (statements_told xs) _ h), from_catches catches (all_left P (catches_told catches) _ h1), from_statements lasts h2))

    statement_together : (x : TStatement-F TBody TStatement TCaseGroup TCatch) → OwnS x → InStatement TB TS TG TC x → AllByRecursion P (statement_by of_value of_type of_inner (map-TStatement TBody TStatement TCaseGroup TCatch (List A) (List A) (List A) (List A) bd st of_group of_catch x))
    statement_together (TStatement-F.Simple at x bodies) h k = (all_both P (of_simple of_value of_type of_inner x) (bodies_told bodies) h (to_bodies bodies k))
    statement_together (TStatement-F.Block at xs right) h k = (to_statements xs k)
    statement_together (TStatement-F.Labeled at own x) h k = k
    statement_together (TStatement-F.If at c bodies x) h k = (all_both P (of_value c) (bodies_told bodies ++ st x) h (all_both P (bodies_told bodies) (st x) (to_bodies bodies k.0) k.1))
    statement_together (TStatement-F.IfElse at c bodies x y) h k = (all_both P (of_value c) (bodies_told bodies ++ (st x ++ st y)) h (all_both P (bodies_told bodies) (st x ++ st y) (to_bodies bodies k.0) (all_both P (st x) (st y) k.1 k.2)))
    statement_together (TStatement-F.While at c bodies x) h k = (all_both P (of_value c) (bodies_told bodies ++ st x) h (all_both P (bodies_told bodies) (st x) (to_bodies bodies k.0) k.1))
    statement_together (TStatement-F.Do at x c bodies) h k = (all_both P (st x) (of_value c ++ bodies_told bodies) k.0 (all_both P (of_value c) (bodies_told bodies) h (to_bodies bodies k.1)))
    statement_together (TStatement-F.For at start c updates bodies x) h k = (all_both P (of_start of_value of_type of_inner start) (of_option of_value of_type of_inner c ++ (flat_map of_value updates ++ (bodies_told bodies ++ st x))) (all_left P (of_start of_value of_type of_inner start) (of_option of_value of_type of_inner c ++ flat_map of_value updates) h) (all_both P (of_option of_value of_type of_inner c) (flat_map of_value updates ++ (bodies_told bodies ++ st x)) (all_left P (of_option of_value of_type of_inner c) (flat_map of_value updates) (all_right P (of_start of_value of_type of_inner start) (of_option of_value of_type of_inner c ++ flat_map of_value updates) h)) (all_both P (flat_map of_value updates) (bodies_told bodies ++ st x) (all_right P (of_option of_value of_type of_inner c) (flat_map of_value updates) (all_right P (of_start of_value of_type of_inner start) (of_option of_value of_type of_inner c ++ flat_map of_value updates) h)) (all_both P (bodies_told bodies) (st x) (to_bodies bodies k.0) k.1))))
    statement_together (TStatement-F.Each at variable xs bodies x) h k = (all_both P (of_declarator of_value of_type of_inner variable) (of_value xs ++ (bodies_told bodies ++ st x)) (all_left P (of_declarator of_value of_type of_inner variable) (of_value xs) h) (all_both P (of_value xs) (bodies_told bodies ++ st x) (all_right P (of_declarator of_value of_type of_inner variable) (of_value xs) h) (all_both P (bodies_told bodies) (st x) (to_bodies bodies k.0) k.1)))
    statement_together (TStatement-F.Switch at x bodies gs) h k = (all_both P (of_value x) (bodies_told bodies ++ groups_told gs) h (all_both P (bodies_told bodies) (groups_told gs) (to_bodies bodies k.0) (to_groups gs k.1)))
    statement_together (TStatement-F.Synchronized at x bodies xs) h k = (all_both P (of_lock of_value of_type of_inner x) (bodies_told bodies ++ statements_told xs) h (all_both P (bodies_told bodies) (statements_told xs) (to_bodies bodies k.0) (to_statements xs k.1)))
    statement_together (TStatement-F.Try at xs catches last lasts) h k = (all_both P (statements_told xs) (catches_told catches ++ statements_told lasts) (to_statements xs k.0) (all_both P (catches_told catches) (statements_told lasts) (to_catches catches k.1) (to_statements lasts k.2)))

    abbrev labels_told : TCaseGroup-F TBody TStatement TCaseGroup TCatch → List A
    labels_told x = flat_map (of_label of_value of_type of_inner) x.labels

    abbrev caught_told : TCatch-F TBody TStatement TCaseGroup TCatch → List A
    caught_told x = of_declarator of_value of_type of_inner x.caught

    -- ---- every part, from all that is told

    abbrev EveryB : TBody → Type 0
    EveryB = every-TBody OwnB OwnS OwnG OwnC

    abbrev EveryS : TStatement → Type 0
    EveryS = every-TStatement OwnB OwnS OwnG OwnC

    abbrev EveryG : TCaseGroup → Type 0
    EveryG = every-TCaseGroup OwnB OwnS OwnG OwnC

    abbrev EveryC : TCatch → Type 0
    EveryC = every-TCatch OwnB OwnS OwnG OwnC

    abbrev F1 : TBody → Type 0
    F1 z = TB z → EveryB z

    abbrev F2 : TStatement → Type 0
    F2 z = TS z → EveryS z

    abbrev F3 : TCaseGroup → Type 0
    F3 z = TG z → EveryG z

    abbrev F4 : TCatch → Type 0
    F4 z = TC z → EveryC z

    step1 : (x : TBody-F TBody TStatement TCaseGroup TCatch) (y : TBody-F (Held F1) (Held F2) (Held F3) (Held F4)) → body_map F1 F2 F3 F4 y ≡ x → F1 (roll-TBody x)
    step1 x y is h =
        let k = body_apart x (subst (AllByRecursion P) (body_form x) h) in
        let l = held_body EveryB EveryS EveryG EveryC x (body_by_steps TB EveryB TS EveryS TG EveryG TC EveryC x (subst (InBody F1 F2 F3 F4) is (body_proofs F1 F2 F3 F4 y)) k.1) in
        every_made-TBody OwnB OwnS OwnG OwnC x l.0 l.1 k.0

    step2 : (x : TStatement-F TBody TStatement TCaseGroup TCatch) (y : TStatement-F (Held F1) (Held F2) (Held F3) (Held F4)) → statement_map F1 F2 F3 F4 y ≡ x → F2 (roll-TStatement x)
    step2 x y is h =
        let k = statement_apart x (subst (AllByRecursion P) (statement_form x) h) in
        let l = held_statement EveryB EveryS EveryG EveryC x (statement_by_steps TB EveryB TS EveryS TG EveryG TC EveryC x (subst (InStatement F1 F2 F3 F4) is (statement_proofs F1 F2 F3 F4 y)) k.1) in
        every_made-TStatement OwnB OwnS OwnG OwnC x l.0 l.1 k.0

    step3 : (x : TCaseGroup-F TBody TStatement TCaseGroup TCatch) (y : TCaseGroup-F (Held F1) (Held F2) (Held F3) (Held F4)) → group_map F1 F2 F3 F4 y ≡ x → F3 (roll-TCaseGroup x)
    step3 x y is h =
        let k : AllByRecursion P (labels_told x ++ statements_told x.statements) = subst (AllByRecursion P) (group_form x) h in
        let rest : AllByRecursion TS x.statements = from_statements x.statements (all_right P (labels_told x) _ k) in
        let steps : AllByRecursion F2 x.statements = subst (InGroup F1 F2 F3 F4) is (group_proofs F1 F2 F3 F4 y) in
        let l = held_group EveryB EveryS EveryG EveryC x (all_by TS EveryS x.statements steps rest) in
        every_made-TCaseGroup OwnB OwnS OwnG OwnC x l.0 l.1 (all_left P (labels_told x) _ k)

    step4 : (x : TCatch-F TBody TStatement TCaseGroup TCatch) (y : TCatch-F (Held F1) (Held F2) (Held F3) (Held F4)) → catch_map F1 F2 F3 F4 y ≡ x → F4 (roll-TCatch x)
    step4 x y is h =
        let k : AllByRecursion P (caught_told x ++ statements_told x.statements) = subst (AllByRecursion P) (catch_form x) h in
        let rest : AllByRecursion TS x.statements = from_statements x.statements (all_right P (caught_told x) _ k) in
        let steps : AllByRecursion F2 x.statements = subst (InCatch F1 F2 F3 F4) is (catch_proofs F1 F2 F3 F4 y) in
        let l = held_catch EveryB EveryS EveryG EveryC x (all_by TS EveryS x.statements steps rest) in
        every_made-TCatch OwnB OwnS OwnG OwnC x l.0 l.1 (all_left P (caught_told x) _ k)

    pub each_statement : (x : TStatement) → TS x → EveryS x
    each_statement = ind-TStatement F1 F2 F3 F4 step1 step2 step3 step4

    pub each_body : (x : TBody) → TB x → EveryB x
    each_body = ind-TBody F1 F2 F3 F4 step1 step2 step3 step4

    -- ---- all that is told, from every part

    abbrev T1 : TBody → Type 0
    T1 z = EveryB z → TB z

    abbrev T2 : TStatement → Type 0
    T2 z = EveryS z → TS z

    abbrev T3 : TCaseGroup → Type 0
    T3 z = EveryG z → TG z

    abbrev T4 : TCatch → Type 0
    T4 z = EveryC z → TC z

    back1 : (x : TBody-F TBody TStatement TCaseGroup TCatch) (y : TBody-F (Held T1) (Held T2) (Held T3) (Held T4)) → body_map T1 T2 T3 T4 y ≡ x → T1 (roll-TBody x)
    back1 x y is h =
        let l = every_held-TBody OwnB OwnS OwnG OwnC (roll-TBody x) h in
        let inside : InBody EveryB EveryS EveryG EveryC x = subst (InBody EveryB EveryS EveryG EveryC) (l.1 ∙ out-roll-TBody x) (body_proofs EveryB EveryS EveryG EveryC l.0) in
        subst (AllByRecursion P) (sym (body_form x)) (body_together x (subst OwnB (out-roll-TBody x) (every_here-TBody OwnB OwnS OwnG OwnC (roll-TBody x) h))
        (body_by_steps EveryB TB EveryS TS EveryG TG EveryC TC x (subst (InBody T1 T2 T3 T4) is (body_proofs T1 T2 T3 T4 y)) inside))

    back2 : (x : TStatement-F TBody TStatement TCaseGroup TCatch) (y : TStatement-F (Held T1) (Held T2) (Held T3) (Held T4)) → statement_map T1 T2 T3 T4 y ≡ x → T2 (roll-TStatement x)
    back2 x y is h =
        let l = every_held-TStatement OwnB OwnS OwnG OwnC (roll-TStatement x) h in
        let inside : InStatement EveryB EveryS EveryG EveryC x = subst (InStatement EveryB EveryS EveryG EveryC) (l.1 ∙ out-roll-TStatement x) (statement_proofs EveryB EveryS EveryG EveryC l.0) in
        subst (AllByRecursion P) (sym (statement_form x)) (statement_together x (subst OwnS (out-roll-TStatement x) (every_here-TStatement OwnB OwnS OwnG OwnC (roll-TStatement x) h))
        (statement_by_steps EveryB TB EveryS TS EveryG TG EveryC TC x (subst (InStatement T1 T2 T3 T4) is (statement_proofs T1 T2 T3 T4 y)) inside))

    back3 : (x : TCaseGroup-F TBody TStatement TCaseGroup TCatch) (y : TCaseGroup-F (Held T1) (Held T2) (Held T3) (Held T4)) → group_map T1 T2 T3 T4 y ≡ x → T3 (roll-TCaseGroup x)
    back3 x y is h =
        let l = every_held-TCaseGroup OwnB OwnS OwnG OwnC (roll-TCaseGroup x) h in
        let inside : AllByRecursion EveryS x.statements = subst (InGroup EveryB EveryS EveryG EveryC) (l.1 ∙ out-roll-TCaseGroup x) (group_proofs EveryB EveryS EveryG EveryC l.0) in
        let steps : AllByRecursion T2 x.statements = subst (InGroup T1 T2 T3 T4) is (group_proofs T1 T2 T3 T4 y) in
        subst (AllByRecursion P) (sym (group_form x)) (all_both P (labels_told x) (statements_told x.statements) (subst OwnG (out-roll-TCaseGroup x) (every_here-TCaseGroup OwnB OwnS OwnG OwnC (roll-TCaseGroup x) h))
        (to_statements x.statements (all_by EveryS TS x.statements steps inside)))

    back4 : (x : TCatch-F TBody TStatement TCaseGroup TCatch) (y : TCatch-F (Held T1) (Held T2) (Held T3) (Held T4)) → catch_map T1 T2 T3 T4 y ≡ x → T4 (roll-TCatch x)
    back4 x y is h =
        let l = every_held-TCatch OwnB OwnS OwnG OwnC (roll-TCatch x) h in
        let inside : AllByRecursion EveryS x.statements = subst (InCatch EveryB EveryS EveryG EveryC) (l.1 ∙ out-roll-TCatch x) (catch_proofs EveryB EveryS EveryG EveryC l.0) in
        let steps : AllByRecursion T2 x.statements = subst (InCatch T1 T2 T3 T4) is (catch_proofs T1 T2 T3 T4 y) in
        subst (AllByRecursion P) (sym (catch_form x)) (all_both P (caught_told x) (statements_told x.statements) (subst OwnC (out-roll-TCatch x) (every_here-TCatch OwnB OwnS OwnG OwnC (roll-TCatch x) h))
        (to_statements x.statements (all_by EveryS TS x.statements steps inside)))

    pub statement_told : (x : TStatement) → EveryS x → TS x
    statement_told = ind-TStatement T1 T2 T3 T4 back1 back2 back3 back4

    pub body_told : (x : TBody) → EveryB x → TB x
    body_told = ind-TBody T1 T2 T3 T4 back1 back2 back3 back4
