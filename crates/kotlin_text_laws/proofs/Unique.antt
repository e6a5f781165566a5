-- A function that does with each form what a fold does is the fold.
use Rattle.std.proofs.Common.{◌≡◌, sym, ap, ◌∙◌}
use mathlib.Core.Sorted.{joined}
use denote.Hole.Carrier.{Values, roll, fold}
use denote.Hole.Recursion.{fold_unique}
use Rattle.kotlin_tree.specs.declared.expressions.KExpr.{KExpr, roll-KExpr, map-KExpr, map_is-KExpr}
use Rattle.kotlin_tree.specs.declared.expressions.KExpr.TheOpen.{KExpr-F, KStmt-F, KChoice-F, KBranch-F, KCatch-F}
use Rattle.kotlin_tree.specs.declared.expressions.KExpr.TheBlock.{the_members, the_sigs, the_carrier, member-KExpr, member-KStmt, member-KChoice, member-KBranch, member-KCatch}
use Rattle.kotlin_tree.specs.declared.expressions.KExpr.TheFolds.{family, steps, map-KStmt, map-KChoice, map-KBranch, map-KCatch, map_is-KStmt, map_is-KChoice, map_is-KBranch, map_is-KCatch}
use Rattle.kotlin_tree.specs.declared.expressions.KExpr.TheViews.{roll-KStmt}
use Rattle.kotlin_tree.specs.declared.expressions.KChoice.{KChoice, roll-KChoice}
use Rattle.kotlin_tree.specs.declared.statements.KStmt.{KStmt}
use Rattle.kotlin_tree.specs.declared.statements.KBranch.{KBranch, roll-KBranch}
use Rattle.kotlin_tree.specs.declared.statements.KCatch.{KCatch, roll-KCatch}

module _ (A1 A2 A3 A4 A5 : Type 0)
    (s1 : KExpr-F A1 A2 A3 A4 A5 → A1) (s2 : KStmt-F A1 A2 A3 A4 A5 → A2) (s3 : KChoice-F A1 A2 A3 A4 A5 → A3) (s4 : KBranch-F A1 A2 A3 A4 A5 → A4) (s5 : KCatch-F A1 A2 A3 A4 A5 → A5)
    (h1 : KExpr → A1) (h2 : KStmt → A2) (h3 : KChoice → A3) (h4 : KBranch → A4) (h5 : KCatch → A5)
    (c1 : (x : KExpr-F KExpr KStmt KChoice KBranch KCatch) → h1 (roll-KExpr x) ≡ s1 (map-KExpr KExpr KStmt KChoice KBranch KCatch A1 A2 A3 A4 A5 h1 h2 h3 h4 h5 x))
    (c2 : (x : KStmt-F KExpr KStmt KChoice KBranch KCatch) → h2 (roll-KStmt x) ≡ s2 (map-KStmt KExpr KStmt KChoice KBranch KCatch A1 A2 A3 A4 A5 h1 h2 h3 h4 h5 x))
    (c3 : (x : KChoice-F KExpr KStmt KChoice KBranch KCatch) → h3 (roll-KChoice x) ≡ s3 (map-KChoice KExpr KStmt KChoice KBranch KCatch A1 A2 A3 A4 A5 h1 h2 h3 h4 h5 x))
    (c4 : (x : KBranch-F KExpr KStmt KChoice KBranch KCatch) → h4 (roll-KBranch x) ≡ s4 (map-KBranch KExpr KStmt KChoice KBranch KCatch A1 A2 A3 A4 A5 h1 h2 h3 h4 h5 x))
    (c5 : (x : KCatch-F KExpr KStmt KChoice KBranch KCatch) → h5 (roll-KCatch x) ≡ s5 (map-KCatch KExpr KStmt KChoice KBranch KCatch A1 A2 A3 A4 A5 h1 h2 h3 h4 h5 x))
  where
    abbrev hs : (j : the_members) → Values the_members the_sigs the_carrier j → family A1 A2 A3 A4 A5 j
    hs member-KExpr = h1
    hs member-KStmt = h2
    hs member-KChoice = h3
    hs member-KBranch = h4
    hs member-KCatch = h5

    commutes : (j : the_members) (x : (joined the_members (the_sigs j) (the_carrier.body j)).Of (Values the_members the_sigs the_carrier)) → hs j (roll the_members the_sigs the_carrier j x) ≡ steps A1 A2 A3 A4 A5 s1 s2 s3 s4 s5 j ((joined the_members (the_sigs j) (the_carrier.body j)).map (Values the_members the_sigs the_carrier) (family A1 A2 A3 A4 A5) hs x)
    unfolding roll-KExpr roll-KStmt roll
    commutes member-KExpr x = c1 x ∙ ap s1 (sym (map_is-KExpr (Values the_members the_sigs the_carrier) (family A1 A2 A3 A4 A5) hs x))
    commutes member-KStmt x = c2 x ∙ ap s2 (sym (map_is-KStmt (Values the_members the_sigs the_carrier) (family A1 A2 A3 A4 A5) hs x))
    commutes member-KChoice x = c3 x ∙ ap s3 (sym (map_is-KChoice (Values the_members the_sigs the_carrier) (family A1 A2 A3 A4 A5) hs x))
    commutes member-KBranch x = c4 x ∙ ap s4 (sym (map_is-KBranch (Values the_members the_sigs the_carrier) (family A1 A2 A3 A4 A5) hs x))
    commutes member-KCatch x = c5 x ∙ ap s5 (sym (map_is-KCatch (Values the_members the_sigs the_carrier) (family A1 A2 A3 A4 A5) hs x))

    pub unique_expression : (x : KExpr) → h1 x ≡ fold the_members the_sigs the_carrier (family A1 A2 A3 A4 A5) (steps A1 A2 A3 A4 A5 s1 s2 s3 s4 s5) member-KExpr x
    unique_expression x = fold_unique the_members the_sigs the_carrier (family A1 A2 A3 A4 A5) (steps A1 A2 A3 A4 A5 s1 s2 s3 s4 s5) hs commutes member-KExpr x

    pub unique_statement : (x : KStmt) → h2 x ≡ fold the_members the_sigs the_carrier (family A1 A2 A3 A4 A5) (steps A1 A2 A3 A4 A5 s1 s2 s3 s4 s5) member-KStmt x
    unique_statement x = fold_unique the_members the_sigs the_carrier (family A1 A2 A3 A4 A5) (steps A1 A2 A3 A4 A5 s1 s2 s3 s4 s5) hs commutes member-KStmt x

    pub unique_choice : (x : KChoice) → h3 x ≡ fold the_members the_sigs the_carrier (family A1 A2 A3 A4 A5) (steps A1 A2 A3 A4 A5 s1 s2 s3 s4 s5) member-KChoice x
    unique_choice x = fold_unique the_members the_sigs the_carrier (family A1 A2 A3 A4 A5) (steps A1 A2 A3 A4 A5 s1 s2 s3 s4 s5) hs commutes member-KChoice x

    pub unique_branch : (x : KBranch) → h4 x ≡ fold the_members the_sigs the_carrier (family A1 A2 A3 A4 A5) (steps A1 A2 A3 A4 A5 s1 s2 s3 s4 s5) member-KBranch x
    unique_branch x = fold_unique the_members the_sigs the_carrier (family A1 A2 A3 A4 A5) (steps A1 A2 A3 A4 A5 s1 s2 s3 s4 s5) hs commutes member-KBranch x

    pub unique_catch : (x : KCatch) → h5 x ≡ fold the_members the_sigs the_carrier (family A1 A2 A3 A4 A5) (steps A1 A2 A3 A4 A5 s1 s2 s3 s4 s5) member-KCatch x
    unique_catch x = fold_unique the_members the_sigs the_carrier (family A1 A2 A3 A4 A5) (steps A1 A2 A3 A4 A5 s1 s2 s3 s4 s5) hs commutes member-KCatch x
