-- Worked rows: small classes, and what is noted of them.
use Rattle.std.proofs.Common.{◌≡◌, ℕ, List, [], ◌∷◌, map, Option, Some, None, refl, ap, sym, ◌∙◌}
use Rattle.kotlin_tree.specs.declared.expressions.KLiteral.TheVariants as literal
use Rattle.kotlin_tree.specs.declared.expressions.KExpr.TheOpen.{KExpr-F, KStmt-F}
use Rattle.kotlin_tree.specs.declared.expressions.KExpr.TheVariants as e
use Rattle.kotlin_tree.specs.declared.statements.KVariability.{KVariability}
use Rattle.kotlin_tree.specs.declared.statements.KVariability.TheVariants as word
use Rattle.kotlin_tree.specs.declared.statements.KDeclared.{KDeclared}
use Rattle.kotlin_tree.specs.declared.statements.KBlock.{KBlock}
use Rattle.kotlin_tree.specs.declared.statements.KStmt.{KStmt}
use Rattle.kotlin_tree.specs.declared.statements.KStmt.TheVariants as s
use Rattle.kotlin_tree.specs.declared.members.KParams.{KParams}
use Rattle.kotlin_tree.specs.declared.members.KTyped.{KTyped}
use Rattle.kotlin_tree.specs.declared.members.KCalled.TheVariants as called_first
use Rattle.kotlin_tree.specs.declared.members.KDelegation.{KDelegation}
use Rattle.kotlin_tree.specs.declared.members.KCompanionAt.{KCompanionAt}
use Rattle.kotlin_tree.specs.declared.members.KMember.{KMember, roll-KMember, map-KMember, fold-roll-KMember}
use Rattle.kotlin_tree.specs.declared.members.KMember.TheOpen.{KMember-F}
use Rattle.kotlin_tree.specs.declared.members.KMember.TheVariants as mb
use Rattle.kotlin_flow.specs.Statements.{said_by, line_by}
use Rattle.kotlin_flow.specs.Faults.{unassigned_reads, assigned_again, assigned_at_end, can_end, AssignedAgain, Missing}
use Rattle.kotlin_flow.specs.Members.{Bare, bare, bare_by}
use Rattle.kotlin_flow.specs.Files.{class_faults_by, companion_faults}
use Rattle.kotlin_flow.proofs.Forms.{Shows, shown_Name, shown_Literal, shown_This, shown_Field, shown_Assign, shown_Return}
use Rattle.kotlin_flow.proofs.Rows.{at, brackets, called, int}

-- ---- a member without the comments before it

bare_form : (x : KMember-F KMember) (y : KMember) → roll-KMember x ≡ y → bare y ≡ bare_by (map-KMember KMember Bare bare x)
unfolding bare
bare_form x y rolls = ap bare (sym rolls) ∙ fold-roll-KMember Bare bare_by x

abbrev f : List ℕ
f = 102 ∷ []

abbrev class : List ℕ
class = 67 ∷ []

abbrev no_params : KParams
no_params = record { round = brackets; items = []; commas = [] }

abbrev body : ℕ → List KStmt → KBlock
body n xs = record { curly = record { opens = at 0; closes = at n }; statements = xs }

abbrev property : KVariability → ℕ → KDeclared
property w n = record { word = w; at = at n; name = called f n; colon = at n; kind = int }

abbrev this_call : ℕ → KDelegation
this_call n = record { colon = at n; called = called_first.This; at = at n; round = brackets; arguments = []; commas = [] }

abbrev companion : KCompanionAt
companion = record { companion = at 0; object = at 0; curly = brackets }

-- `: Int`, the type of a result
abbrev an_int : Option KTyped
an_int = Some (record { colon = at 0; kind = int })

-- `val f: Int`
bare_property : (w : KVariability) (n : ℕ) → bare (mb.Property [] (property w n) None None) ≡ KMember-F.Property [] (property w n) None None
bare_property w n = bare_form (KMember-F.Property [] (property w n) None None) _ (mb.rolls-Property [] (property w n) None None)

bare_init : (n : ℕ) (xs : List KStmt) → bare (mb.Init (at n) (body 0 xs)) ≡ KMember-F.Init (at n) (body 0 xs)
bare_init n xs = bare_form (KMember-F.Init (at n) (body 0 xs)) _ (mb.rolls-Init (at n) (body 0 xs))

bare_constructor : (n : ℕ) (first : Option KDelegation) (xs : List KStmt) → bare (mb.Constructor [] (at n) no_params first (body 0 xs)) ≡ KMember-F.Constructor [] (at n) no_params first (body 0 xs)
bare_constructor n first xs = bare_form (KMember-F.Constructor [] (at n) no_params first (body 0 xs)) _ (mb.rolls-Constructor [] (at n) no_params first (body 0 xs))

bare_function : (n : ℕ) (result : Option KTyped) (k : ℕ) (xs : List KStmt) → bare (mb.Function [] (at n) (called f n) no_params result (Some (body k xs))) ≡ KMember-F.Function [] (at n) (called f n) no_params result (Some (body k xs))
bare_function n result k xs = bare_form (KMember-F.Function [] (at n) (called f n) no_params result (Some (body k xs))) _ (mb.rolls-Function [] (at n) (called f n) no_params result (Some (body k xs)))

bare_companion : (ms : List KMember) → bare (mb.Companion companion ms) ≡ KMember-F.Companion companion (map roll-KMember (map bare ms))
bare_companion ms = bare_form (KMember-F.Companion companion ms) _ (mb.rolls-Companion companion ms)

-- `this.f = 1`
abbrev sets : ℕ → KStmt
sets n = s.Assign (e.Field (e.This (at n)) (at n) (called f n)) (at n) (e.Literal (literal.Integer 1) (at n))

shown_sets : (n : ℕ) → Shows (sets n) (line_by (KStmt-F.Assign (said_by (KExpr-F.Field (said_by (KExpr-F.This (at n))) (at n) (called f n))) (at n) (said_by (KExpr-F.Literal (literal.Integer 1) (at n)))))
shown_sets n = shown_Assign (at n) (shown_Field (at n) (called f n) (shown_This (at n))) (shown_Literal (literal.Integer 1) (at n))

shown_returns : (n : ℕ) → Shows (s.Return (at n) None) (line_by (KStmt-F.Return (at n) None))
shown_returns n = shown_Return (at n) None

-- `C.f = 1`
abbrev gives : ℕ → KStmt
gives n = s.Assign (e.Field (e.Name (called class n)) (at n) (called f n)) (at n) (e.Literal (literal.Integer 1) (at n))

shown_gives : (n : ℕ) → Shows (gives n) (line_by (KStmt-F.Assign (said_by (KExpr-F.Field (said_by (KExpr-F.Name (called class n))) (at n) (called f n))) (at n) (said_by (KExpr-F.Literal (literal.Integer 1) (at n)))))
shown_gives n = shown_Assign (at n) (shown_Field (at n) (called f n) (shown_Name (called class n))) (shown_Literal (literal.Integer 1) (at n))

-- ---- properties of objects

-- `val f: Int; constructor() { this.f = 1 }`
set_by_constructor : class_faults_by class (map bare (mb.Property [] (property word.Val 1) None None ∷ mb.Constructor [] (at 2) no_params None (body 0 (sets 3 ∷ [])) ∷ [])) ≡ []
unfolding unassigned_reads assigned_again assigned_at_end can_end
set_by_constructor = rw (bare_property word.Val 1, bare_constructor 2 None (sets 3 ∷ []), (shown_sets 3).is) refl

-- `val f: Int; constructor() { }`: K12 at its name
never_set : class_faults_by class (map bare (mb.Property [] (property word.Val 1) None None ∷ mb.Constructor [] (at 2) no_params None (body 0 []) ∷ [])) ≡ record { code = Missing; at = at 1 } ∷ []
unfolding unassigned_reads assigned_again assigned_at_end can_end
never_set = rw (bare_property word.Val 1, bare_constructor 2 None []) refl

-- and so for a `var`
var_never_set : class_faults_by class (map bare (mb.Property [] (property word.Var 1) None None ∷ mb.Constructor [] (at 2) no_params None (body 0 []) ∷ [])) ≡ record { code = Missing; at = at 1 } ∷ []
unfolding unassigned_reads assigned_again assigned_at_end can_end
var_never_set = rw (bare_property word.Var 1, bare_constructor 2 None []) refl

-- `var f: Int; constructor() : this() { }`: it is assigned behind `this()`
set_behind_this : class_faults_by class (map bare (mb.Property [] (property word.Var 1) None None ∷ mb.Constructor [] (at 2) no_params (Some (this_call 0)) (body 0 []) ∷ [])) ≡ []
unfolding unassigned_reads assigned_again assigned_at_end can_end
set_behind_this = rw (bare_property word.Var 1, bare_constructor 2 (Some (this_call 0)) []) refl

-- `val f: Int; constructor() { this.f = 1; this.f = 1 }`: K10 at the second
set_twice : class_faults_by class (map bare (mb.Property [] (property word.Val 1) None None ∷ mb.Constructor [] (at 2) no_params None (body 0 (sets 3 ∷ sets 4 ∷ [])) ∷ [])) ≡ record { code = AssignedAgain; at = at 4 } ∷ []
unfolding unassigned_reads assigned_again assigned_at_end can_end
set_twice = rw (bare_property word.Val 1, bare_constructor 2 None (sets 3 ∷ sets 4 ∷ []), (shown_sets 3).is, (shown_sets 4).is) refl

-- `val f: Int; constructor() : this() { this.f = 1 }`: K10
set_again_behind_this : class_faults_by class (map bare (mb.Property [] (property word.Val 1) None None ∷ mb.Constructor [] (at 2) no_params (Some (this_call 0)) (body 0 (sets 3 ∷ [])) ∷ [])) ≡ record { code = AssignedAgain; at = at 3 } ∷ []
unfolding unassigned_reads assigned_again assigned_at_end can_end
set_again_behind_this = rw (bare_property word.Val 1, bare_constructor 2 (Some (this_call 0)) (sets 3 ∷ []), (shown_sets 3).is) refl

-- `val f: Int; init { this.f = 1 }`, without a constructor and with one
set_by_initializer : class_faults_by class (map bare (mb.Property [] (property word.Val 1) None None ∷ mb.Init (at 2) (body 0 (sets 3 ∷ [])) ∷ [])) ≡ []
unfolding unassigned_reads assigned_again assigned_at_end can_end
set_by_initializer = rw (bare_property word.Val 1, bare_init 2 (sets 3 ∷ []), (shown_sets 3).is) refl

set_before_constructor : class_faults_by class (map bare (mb.Property [] (property word.Val 1) None None ∷ mb.Init (at 2) (body 0 (sets 3 ∷ [])) ∷ mb.Constructor [] (at 4) no_params None (body 0 []) ∷ [])) ≡ []
unfolding unassigned_reads assigned_again assigned_at_end can_end
set_before_constructor = rw (bare_property word.Val 1, bare_init 2 (sets 3 ∷ []), (shown_sets 3).is, bare_constructor 4 None []) refl

-- `val f: Int; init { this.f = 1 }; constructor() { this.f = 1 }`: K10 in the constructor
set_by_both : class_faults_by class (map bare (mb.Property [] (property word.Val 1) None None ∷ mb.Init (at 2) (body 0 (sets 3 ∷ [])) ∷ mb.Constructor [] (at 4) no_params None (body 0 (sets 5 ∷ [])) ∷ [])) ≡ record { code = AssignedAgain; at = at 5 } ∷ []
unfolding unassigned_reads assigned_again assigned_at_end can_end
set_by_both = rw (bare_property word.Val 1, bare_init 2 (sets 3 ∷ []), (shown_sets 3).is, bare_constructor 4 None (sets 5 ∷ []), (shown_sets 5).is) refl

-- `val f: Int; constructor() { return; this.f = 1 }`: an end is also at each `return`
returned_before : class_faults_by class (map bare (mb.Property [] (property word.Val 1) None None ∷ mb.Constructor [] (at 2) no_params None (body 0 (s.Return (at 3) None ∷ sets 4 ∷ [])) ∷ [])) ≡ record { code = Missing; at = at 1 } ∷ []
unfolding unassigned_reads assigned_again assigned_at_end can_end
returned_before = rw (bare_property word.Val 1, bare_constructor 2 None (s.Return (at 3) None ∷ sets 4 ∷ []), (shown_returns 3).is, (shown_sets 4).is) refl

-- `val f: Int; init { this.f = 1 }; fun f() { this.f = 1 }`: K10
set_by_function : class_faults_by class (map bare (mb.Property [] (property word.Val 1) None None ∷ mb.Init (at 2) (body 0 (sets 3 ∷ [])) ∷ mb.Function [] (at 4) (called f 4) no_params None (Some (body 5 (sets 6 ∷ []))) ∷ [])) ≡ record { code = AssignedAgain; at = at 6 } ∷ []
unfolding unassigned_reads assigned_again assigned_at_end can_end
set_by_function = rw (bare_property word.Val 1, bare_init 2 (sets 3 ∷ []), (shown_sets 3).is, bare_function 4 None 5 (sets 6 ∷ []), (shown_sets 6).is) refl

-- nor is a `var` at fault
var_set_by_function : class_faults_by class (map bare (mb.Property [] (property word.Var 1) None None ∷ mb.Init (at 2) (body 0 (sets 3 ∷ [])) ∷ mb.Function [] (at 4) (called f 4) no_params None (Some (body 5 (sets 6 ∷ []))) ∷ [])) ≡ []
unfolding unassigned_reads assigned_again assigned_at_end can_end
var_set_by_function = rw (bare_property word.Var 1, bare_init 2 (sets 3 ∷ []), (shown_sets 3).is, bare_function 4 None 5 (sets 6 ∷ []), (shown_sets 6).is) refl

-- ---- properties of companions, in the text of the companion

-- `val f: Int; init { C.f = 1 }`
given_by_companion : companion_faults class [] (map bare (mb.Property [] (property word.Val 1) None None ∷ mb.Init (at 2) (body 0 (gives 3 ∷ [])) ∷ [])) ≡ []
unfolding unassigned_reads assigned_again assigned_at_end can_end
given_by_companion = rw (bare_property word.Val 1, bare_init 2 (gives 3 ∷ []), (shown_gives 3).is) refl

-- `val f: Int`
never_given : companion_faults class [] (map bare (mb.Property [] (property word.Val 1) None None ∷ [])) ≡ record { code = Missing; at = at 1 } ∷ []
unfolding unassigned_reads assigned_again assigned_at_end can_end
never_given = rw (bare_property word.Val 1) refl

-- `val f: Int; init { C.f = 1; C.f = 1 }`
given_twice : companion_faults class [] (map bare (mb.Property [] (property word.Val 1) None None ∷ mb.Init (at 2) (body 0 (gives 3 ∷ gives 4 ∷ [])) ∷ [])) ≡ record { code = AssignedAgain; at = at 4 } ∷ []
unfolding unassigned_reads assigned_again assigned_at_end can_end
given_twice = rw (bare_property word.Val 1, bare_init 2 (gives 3 ∷ gives 4 ∷ []), (shown_gives 3).is, (shown_gives 4).is) refl

-- ---- results

-- `fun f(): Int { }`: K12 at its `}`
result_missing : class_faults_by class (map bare (mb.Function [] (at 1) (called f 1) no_params an_int (Some (body 2 [])) ∷ [])) ≡ record { code = Missing; at = at 2 } ∷ []
unfolding unassigned_reads assigned_again assigned_at_end can_end
result_missing = rw (bare_function 1 an_int 2 []) refl

-- `fun f() { }`
no_result : class_faults_by class (map bare (mb.Function [] (at 1) (called f 1) no_params None (Some (body 2 [])) ∷ [])) ≡ []
unfolding unassigned_reads assigned_again assigned_at_end can_end
no_result = rw (bare_function 1 None 2 []) refl

-- `fun f(): Int { return }`: that a value is missing isn't told here
result_never_missed : class_faults_by class (map bare (mb.Function [] (at 1) (called f 1) no_params an_int (Some (body 2 (s.Return (at 3) None ∷ []))) ∷ [])) ≡ []
unfolding unassigned_reads assigned_again assigned_at_end can_end
result_never_missed = rw (bare_function 1 an_int 2 (s.Return (at 3) None ∷ []), (shown_returns 3).is) refl

-- ---- a companion in its class

-- `companion object { val f: Int; init { C.f = 1 } }; fun f() { C.f = 1 }`: K10 in the function
given_by_function : class_faults_by class (map bare (mb.Companion companion (mb.Property [] (property word.Val 1) None None ∷ mb.Init (at 2) (body 0 (gives 3 ∷ [])) ∷ []) ∷ mb.Function [] (at 4) (called f 4) no_params None (Some (body 5 (gives 6 ∷ []))) ∷ [])) ≡ record { code = AssignedAgain; at = at 6 } ∷ []
unfolding unassigned_reads assigned_again assigned_at_end can_end
given_by_function = rw (bare_companion (mb.Property [] (property word.Val 1) None None ∷ mb.Init (at 2) (body 0 (gives 3 ∷ [])) ∷ []), bare_function 4 None 5 (gives 6 ∷ []), bare_property word.Val 1, bare_init 2 (gives 3 ∷ []), mb.rolls-Property [] (property word.Val 1) None None, mb.rolls-Init (at 2) (body 0 (gives 3 ∷ [])), bare_property word.Val 1, bare_init 2 (gives 3 ∷ []), (shown_gives 3).is, (shown_gives 6).is) refl
