-- The scopes of a text's locals are made of what the text does.
use Rattle.std.proofs.Common.{◌≡◌, ℕ, List, [], ◌∷◌, map, refl, sym, ap, ◌∙◌}
use mathlib.Core.Sorted.{joined}
use denote.Hole.Carrier.{Values, roll, fold}
use denote.Hole.Recursion.{fold_unique}
use Rattle.java_typed.specs.declared.statements.TBody.{TBody, roll-TBody, map-TBody, map_is-TBody, fold-roll-TBody}
use Rattle.java_typed.specs.declared.statements.TBody.TheOpen.{TBody-F, TStatement-F, TCaseGroup-F, TCatch-F}
use Rattle.java_typed.specs.declared.statements.TBody.TheBlock.{the_members, the_sigs, the_carrier, member-TBody, member-TStatement, member-TCaseGroup, member-TCatch}
use Rattle.java_typed.specs.declared.statements.TBody.TheFolds.{family, steps, map-TStatement, map-TCaseGroup, map-TCatch, map_is-TStatement, map_is-TCaseGroup, map_is-TCatch}
use Rattle.java_typed.specs.declared.statements.TBody.TheViews.{roll-TStatement}
use Rattle.java_typed.specs.declared.statements.TStatement.{TStatement, fold-roll-TStatement}
use Rattle.java_typed.specs.declared.statements.TCaseGroup.{TCaseGroup, roll-TCaseGroup, fold-TCaseGroup, fold-roll-TCaseGroup}
use Rattle.java_typed.specs.declared.statements.TCatch.{TCatch, roll-TCatch, fold-TCatch, fold-roll-TCatch}
use Rattle.flow.specs.Acts.{Then}
use Rattle.java_flow.specs.Variables.{JavaAct}
use Rattle.java_flow.specs.Statements.{Statement, CaseGroup, statement, statements, body, block, body_by, statement_by, group_by, catch_by, given}
use Rattle.java_flow.specs.Scopes.{Inner, Labeled, GroupPiece, does_of, rest, acts, inner_by, piece_by, case_by, caught_by, piece, inner_of}
use Rattle.java_flow.proofs.Forms.{group, catch}

module _ {A B C : Type 0} where
  map_map : (f : A → B) (g : B → C) (xs : List A) → map g (map f xs) ≡ map (λ x. g (f x)) xs
  map_map f g [] = refl
  map_map f g (x ∷ xs) = ap (λ l. g (f x) ∷ l) (map_map f g xs)

module _ {A B : Type 0} where
  map_same : (f g : A → B) → ((x : A) → f x ≡ g x) → (xs : List A) → map f xs ≡ map g xs
  map_same f g h [] = refl
  map_same f g h (x ∷ xs) = ap (λ z. z ∷ map f xs) (h x) ∙ ap (λ l. g x ∷ l) (map_same f g h xs)

module _ (A1 A2 A3 A4 : Type 0)
    (s1 : TBody-F A1 A2 A3 A4 → A1) (s2 : TStatement-F A1 A2 A3 A4 → A2) (s3 : TCaseGroup-F A1 A2 A3 A4 → A3) (s4 : TCatch-F A1 A2 A3 A4 → A4)
    (h1 : TBody → A1) (h2 : TStatement → A2) (h3 : TCaseGroup → A3) (h4 : TCatch → A4)
    (c1 : (x : TBody-F TBody TStatement TCaseGroup TCatch) → h1 (roll-TBody x) ≡ s1 (map-TBody TBody TStatement TCaseGroup TCatch A1 A2 A3 A4 h1 h2 h3 h4 x))
    (c2 : (x : TStatement-F TBody TStatement TCaseGroup TCatch) → h2 (roll-TStatement x) ≡ s2 (map-TStatement TBody TStatement TCaseGroup TCatch A1 A2 A3 A4 h1 h2 h3 h4 x))
    (c3 : (x : TCaseGroup-F TBody TStatement TCaseGroup TCatch) → h3 (roll-TCaseGroup x) ≡ s3 (map-TCaseGroup TBody TStatement TCaseGroup TCatch A1 A2 A3 A4 h1 h2 h3 h4 x))
    (c4 : (x : TCatch-F TBody TStatement TCaseGroup TCatch) → h4 (roll-TCatch x) ≡ s4 (map-TCatch TBody TStatement TCaseGroup TCatch A1 A2 A3 A4 h1 h2 h3 h4 x))
  where
    abbrev hs : (j : the_members) → Values the_members the_sigs the_carrier j → family A1 A2 A3 A4 j
    hs member-TBody = h1
    hs member-TStatement = h2
    hs member-TCaseGroup = h3
    hs member-TCatch = h4

    commutes : (j : the_members) (x : (joined the_members (the_sigs j) (the_carrier.body j)).Of (Values the_members the_sigs the_carrier)) → hs j (roll the_members the_sigs the_carrier j x) ≡ steps A1 A2 A3 A4 s1 s2 s3 s4 j ((joined the_members (the_sigs j) (the_carrier.body j)).map (Values the_members the_sigs the_carrier) (family A1 A2 A3 A4) hs x)
    unfolding roll-TBody roll-TStatement roll
    commutes member-TBody x = c1 x ∙ ap s1 (sym (map_is-TBody (Values the_members the_sigs the_carrier) (family A1 A2 A3 A4) hs x))
    commutes member-TStatement x = c2 x ∙ ap s2 (sym (map_is-TStatement (Values the_members the_sigs the_carrier) (family A1 A2 A3 A4) hs x))
    commutes member-TCaseGroup x = c3 x ∙ ap s3 (sym (map_is-TCaseGroup (Values the_members the_sigs the_carrier) (family A1 A2 A3 A4) hs x))
    commutes member-TCatch x = c4 x ∙ ap s4 (sym (map_is-TCatch (Values the_members the_sigs the_carrier) (family A1 A2 A3 A4) hs x))

    unique_statement : (x : TStatement) → h2 x ≡ fold the_members the_sigs the_carrier (family A1 A2 A3 A4) (steps A1 A2 A3 A4 s1 s2 s3 s4) member-TStatement x
    unique_statement x = fold_unique the_members the_sigs the_carrier (family A1 A2 A3 A4) (steps A1 A2 A3 A4 s1 s2 s3 s4) hs commutes member-TStatement x

module _ (inner : ℕ → JavaAct) where
  group_piece : TCaseGroup → GroupPiece
  group_piece = fold-TCaseGroup Inner Labeled GroupPiece Inner (inner_by inner) (piece_by inner) (case_by inner) (caught_by inner)

  caught : TCatch → Inner
  caught = fold-TCatch Inner Labeled GroupPiece Inner (inner_by inner) (piece_by inner) (case_by inner) (caught_by inner)

  abbrev body_does : TBody → JavaAct
  body_does x = (inner_of inner x).does

  abbrev statement_does : TStatement → Statement
  statement_does x = does_of (piece inner x)

  abbrev group_does : TCaseGroup → CaseGroup
  group_does x = (group_piece x).group

  abbrev catch_does : TCatch → JavaAct
  catch_does x = (caught x).does

  all_does : (xs : List TStatement) → map does_of (map (piece inner) xs) ≡ map statement_does xs
  all_does xs = map_map (piece inner) does_of xs

  bodies_do : (bs : List TBody) → acts (map (inner_of inner) bs) ≡ map body_does bs
  bodies_do bs = map_map (inner_of inner) (λ b. b.does) bs

  c1 : (x : TBody-F TBody TStatement TCaseGroup TCatch) → body_does (roll-TBody x) ≡ body_by inner (map-TBody TBody TStatement TCaseGroup TCatch JavaAct Statement CaseGroup JavaAct body_does statement_does group_does catch_does x)
  unfolding piece inner_of group_piece caught
  c1 x = ap (λ b. b.does) (fold-roll-TBody Inner Labeled GroupPiece Inner (inner_by inner) (piece_by inner) (case_by inner) (caught_by inner) x) ∙ by x
    where
      by : (x : TBody-F TBody TStatement TCaseGroup TCatch) → (inner_by inner (map-TBody TBody TStatement TCaseGroup TCatch Inner Labeled GroupPiece Inner (inner_of inner) (piece inner) group_piece caught x)).does ≡ body_by inner (map-TBody TBody TStatement TCaseGroup TCatch JavaAct Statement CaseGroup JavaAct body_does statement_does group_does catch_does x)
      by (TBody-F.Statements xs) = ap block (all_does xs)
      by (TBody-F.Class n) = refl

  c3 : (x : TCaseGroup-F TBody TStatement TCaseGroup TCatch) → group_does (roll-TCaseGroup x) ≡ group_by inner (map-TCaseGroup TBody TStatement TCaseGroup TCatch JavaAct Statement CaseGroup JavaAct body_does statement_does group_does catch_does x)
  unfolding piece inner_of group_piece caught
  c3 x = ap (λ g. g.group) (fold-roll-TCaseGroup Inner Labeled GroupPiece Inner (inner_by inner) (piece_by inner) (case_by inner) (caught_by inner) x) ∙ ap (λ l. group_by inner (record { labels = x.labels; statements = l })) (all_does x.statements)

  c4 : (x : TCatch-F TBody TStatement TCaseGroup TCatch) → catch_does (roll-TCatch x) ≡ catch_by inner (map-TCatch TBody TStatement TCaseGroup TCatch JavaAct Statement CaseGroup JavaAct body_does statement_does group_does catch_does x)
  unfolding piece inner_of group_piece caught
  c4 x = ap (λ b. b.does) (fold-roll-TCatch Inner Labeled GroupPiece Inner (inner_by inner) (piece_by inner) (case_by inner) (caught_by inner) x) ∙ ap (λ l. Then (given x.caught) (block l)) (all_does x.statements)

  abbrev Of : TStatement-F JavaAct Statement CaseGroup JavaAct → Statement
  Of = statement_by inner

  by_form : (x : TStatement-F TBody TStatement TCaseGroup TCatch) → does_of (piece_by inner (map-TStatement TBody TStatement TCaseGroup TCatch Inner Labeled GroupPiece Inner (inner_of inner) (piece inner) group_piece caught x)) ≡ statement_by inner (map-TStatement TBody TStatement TCaseGroup TCatch JavaAct Statement CaseGroup JavaAct body_does statement_does group_does catch_does x)
  by_form (TStatement-F.Simple at x bs) = ap (λ l. Of (TStatement-F.Simple at x l)) (bodies_do bs)
  by_form (TStatement-F.Block at xs right) = ap (λ l. Of (TStatement-F.Block at l right)) (all_does xs)
  by_form (TStatement-F.Labeled at own x) = refl
  by_form (TStatement-F.If at c bs x) = ap (λ l. Of (TStatement-F.If at c l (statement_does x))) (bodies_do bs)
  by_form (TStatement-F.IfElse at c bs x y) = ap (λ l. Of (TStatement-F.IfElse at c l (statement_does x) (statement_does y))) (bodies_do bs)
  by_form (TStatement-F.While at c bs x) = ap (λ l. Of (TStatement-F.While at c l (statement_does x))) (bodies_do bs)
  by_form (TStatement-F.Do at x c bs) = ap (λ l. Of (TStatement-F.Do at (statement_does x) c l)) (bodies_do bs)
  by_form (TStatement-F.For at start c updates bs x) = ap (λ l. Of (TStatement-F.For at start c updates l (statement_does x))) (bodies_do bs)
  by_form (TStatement-F.Each at variable xs bs x) = ap (λ l. Of (TStatement-F.Each at variable xs l (statement_does x))) (bodies_do bs)
  by_form (TStatement-F.Switch at x bs gs) = ap (λ l. Of (TStatement-F.Switch at x l (map (λ g. g.group) (map group_piece gs)))) (bodies_do bs) ∙ ap (λ l. Of (TStatement-F.Switch at x (map body_does bs) l)) (map_map group_piece (λ g. g.group) gs)
  by_form (TStatement-F.Synchronized at x bs xs) = ap (λ l. Of (TStatement-F.Synchronized at x l (map does_of (map (piece inner) xs)))) (bodies_do bs) ∙ ap (λ l. Of (TStatement-F.Synchronized at x (map body_does bs) l)) (all_does xs)
  by_form (TStatement-F.Try at xs cs last ys) =
      ap (λ l. Of (TStatement-F.Try at l (acts (map caught cs)) last (map does_of (map (piece inner) ys)))) (all_does xs)
      ∙ ap (λ l. Of (TStatement-F.Try at (map statement_does xs) l last (map does_of (map (piece inner) ys)))) (map_map caught (λ b. b.does) cs)
      ∙ ap (λ l. Of (TStatement-F.Try at (map statement_does xs) (map catch_does cs) last l)) (all_does ys)

  c2 : (x : TStatement-F TBody TStatement TCaseGroup TCatch) → statement_does (roll-TStatement x) ≡ statement_by inner (map-TStatement TBody TStatement TCaseGroup TCatch JavaAct Statement CaseGroup JavaAct body_does statement_does group_does catch_does x)
  unfolding piece inner_of group_piece caught
  c2 x = ap does_of (fold-roll-TStatement Inner Labeled GroupPiece Inner (inner_by inner) (piece_by inner) (case_by inner) (caught_by inner) x) ∙ by_form x

  abbrev Folded : TStatement → Statement
  Folded x = fold the_members the_sigs the_carrier (family JavaAct Statement CaseGroup JavaAct) (steps JavaAct Statement CaseGroup JavaAct (body_by inner) (statement_by inner) (group_by inner) (catch_by inner)) member-TStatement x

  piece_folded : (x : TStatement) → does_of (piece inner x) ≡ Folded x
  piece_folded x = unique_statement JavaAct Statement CaseGroup JavaAct (body_by inner) (statement_by inner) (group_by inner) (catch_by inner) body_does statement_does group_does catch_does c1 c2 c3 c4 x

  statement_folded : (x : TStatement) → statement inner x ≡ Folded x
  unfolding statement body group catch
  statement_folded x = unique_statement JavaAct Statement CaseGroup JavaAct (body_by inner) (statement_by inner) (group_by inner) (catch_by inner) (body inner) (statement inner) (group inner) (catch inner)
      (fold-roll-TBody JavaAct Statement CaseGroup JavaAct (body_by inner) (statement_by inner) (group_by inner) (catch_by inner))
      (fold-roll-TStatement JavaAct Statement CaseGroup JavaAct (body_by inner) (statement_by inner) (group_by inner) (catch_by inner))
      (fold-roll-TCaseGroup JavaAct Statement CaseGroup JavaAct (body_by inner) (statement_by inner) (group_by inner) (catch_by inner))
      (fold-roll-TCatch JavaAct Statement CaseGroup JavaAct (body_by inner) (statement_by inner) (group_by inner) (catch_by inner)) x

  pub piece_does : (x : TStatement) → does_of (piece inner x) ≡ statement inner x
  piece_does x = piece_folded x ∙ sym (statement_folded x)

  pub rest_is : (xs : List TStatement) → rest (map (piece inner) xs) ≡ statements inner xs
  rest_is xs = ap block (all_does xs ∙ map_same statement_does (statement inner) piece_does xs)
