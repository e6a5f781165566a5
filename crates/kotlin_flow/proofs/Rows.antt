-- Worked rows: small texts, and what the definitions say of them.
use Rattle.std.proofs.Common.{◌≡◌, ℕ, true, false, List, [], ◌∷◌, map, Some, None, refl, ap, ◌∙◌}
use Rattle.std.specs.Prelude.{codes}
use Rattle.kotlin_tree.specs.declared.places.Position.{Position}
use Rattle.kotlin_tree.specs.declared.places.Brackets.{Brackets}
use Rattle.kotlin_tree.specs.declared.types.KName.{KName}
use Rattle.kotlin_tree.specs.declared.types.KType.{KType}
use Rattle.kotlin_tree.specs.declared.types.KType.TheVariants as ty
use Rattle.kotlin_tree.specs.declared.expressions.KLiteral.TheVariants as literal
use Rattle.kotlin_tree.specs.declared.expressions.KHeadAt.{KHeadAt}
use Rattle.kotlin_tree.specs.declared.expressions.KLambdaNames.{KLambdaNames}
use Rattle.kotlin_tree.specs.declared.expressions.KExpr.{KExpr}
use Rattle.kotlin_tree.specs.declared.expressions.KExpr.TheOpen.{KExpr-F, KStmt-F}
use Rattle.kotlin_tree.specs.declared.expressions.KExpr.TheVariants as e
use Rattle.kotlin_tree.specs.declared.statements.KVariability.{KVariability}
use Rattle.kotlin_tree.specs.declared.statements.KVariability.TheVariants as word
use Rattle.kotlin_tree.specs.declared.statements.KDeclared.{KDeclared}
use Rattle.kotlin_tree.specs.declared.statements.KTarget.{KTarget}
use Rattle.kotlin_tree.specs.declared.statements.KFinallyAt.{KFinallyAt}
use Rattle.kotlin_tree.specs.declared.statements.KStmt.{KStmt}
use Rattle.kotlin_tree.specs.declared.statements.KStmt.TheVariants as s
use Rattle.flow.specs.Analyses.{Reaches}
use Rattle.kotlin_flow.specs.Expressions.{Said}
use Rattle.kotlin_flow.specs.Statements.{Line, block, block_blanks, said_by, line_by}
use Rattle.kotlin_flow.specs.Texts.{line}
use Rattle.kotlin_flow.specs.Faults.{unassigned_reads, assigned_again, unreachable_statements, can_end, FlowFault, NotAssigned, AssignedAgain, blanks_faults}
use Rattle.kotlin_flow.proofs.Forms.{Says, Shows, AllShow, none_shows, shows, no_catch, shown_Name, shown_Literal, shown_Lambda, shown_Run, shown_Declared, shown_Expression, shown_Assign, shown_While, shown_DoWhile, shown_If, shown_IfElse, shown_Break, shown_Continue, shown_Return, shown_TryFinally, shown_Synchronized}

abbrev pub at : ℕ → Position
at n = record { offset = n; line = 1; column = n }

abbrev pub brackets : Brackets
brackets = record { opens = at 0; closes = at 0 }

abbrev head : ℕ → KHeadAt
head n = record { word = at n; round = brackets }

abbrev x : List ℕ
x = 120 ∷ []

abbrev c : List ℕ
c = 99 ∷ []

abbrev pub called : List ℕ → ℕ → KName
called name n = record { name = name; at = at n }

abbrev pub int : KType
int = ty.Plain (record { first = called (codes "Int") 0; rest = [] }) None false

abbrev face : KType
face = ty.Plain (record { first = called (codes "F") 0; rest = [] }) None false

abbrev no_names : KLambdaNames
no_names = record { items = []; commas = []; arrow = None }

abbrev declares : KVariability → ℕ → KDeclared
declares w n = record { word = w; at = at n; name = called x n; colon = at n; kind = int }

abbrev last : ℕ → KFinallyAt
last n = record { word = at n; curly = brackets }

-- behind `return@synchronized`
abbrev lock : ℕ → KTarget
lock n = record { at = at n; name = called (codes "synchronized") n }

-- ---- parts of the texts, and what they do

-- `x`
abbrev it : ℕ → KExpr
it n = e.Name (called x n)

abbrev it_does : ℕ → Said
it_does n = said_by (KExpr-F.Name (called x n))

-- `c`
abbrev test : ℕ → KExpr
test n = e.Name (called c n)

shown_test : (n : ℕ) → Says (test n) (said_by (KExpr-F.Name (called c n)))
shown_test n = shown_Name (called c n)

-- `true`
abbrev always : ℕ → KExpr
always n = e.Literal literal.True (at n)

shown_always : (n : ℕ) → Says (always n) (said_by (KExpr-F.Literal literal.True (at n)))
shown_always n = shown_Literal literal.True (at n)

-- `x = 1`
abbrev sets : ℕ → KStmt
sets n = s.Assign (it n) (at n) (e.Literal (literal.Integer 1) (at n))

shown_sets : (n : ℕ) → Shows (sets n) (line_by (KStmt-F.Assign (it_does n) (at n) (said_by (KExpr-F.Literal (literal.Integer 1) (at n)))))
shown_sets n = shown_Assign (at n) (shown_Name (called x n)) (shown_Literal (literal.Integer 1) (at n))

-- `x`, that is, a call that reads it
abbrev reads : ℕ → KStmt
reads n = s.Expression (it n)

shown_reads : (n : ℕ) → Shows (reads n) (line_by (KStmt-F.Expression (it_does n)))
shown_reads n = shown_Expression (shown_Name (called x n))

shown_runs : (n : ℕ) {xs : List KStmt} {ls : List Line} → AllShow xs ls → Shows (s.Expression (e.Run (at n) brackets xs)) (line_by (KStmt-F.Expression (said_by (KExpr-F.Run (at n) brackets ls))))
shown_runs n h = shown_Expression (shown_Run (at n) brackets h)

shown_lambda : (n : ℕ) {xs : List KStmt} {ls : List Line} → AllShow xs ls → Shows (s.Expression (e.Lambda face brackets no_names xs)) (line_by (KStmt-F.Expression (said_by (KExpr-F.Lambda face brackets no_names ls))))
shown_lambda n h = shown_Expression (shown_Lambda face brackets no_names h)

-- ---- what is noted of the locals of a block, where `c` is a parameter

abbrev noted : List Line → List FlowFault
noted ls = blanks_faults (block_blanks ls (c ∷ []))

told : {A : Type 0} (of : List Line → A) {xs : List KStmt} {ls : List Line} {a : A} → AllShow xs ls → of ls ≡ a → of (map line xs) ≡ a
told of h is = ap of h.is ∙ is

abbrev unassigned : ℕ → List FlowFault
unassigned n = record { code = NotAssigned; at = at n } ∷ []

abbrev again : ℕ → List FlowFault
again n = record { code = AssignedAgain; at = at n } ∷ []

-- ---- K11

-- `var x: Int; if (c) { x = 1 }; x`: the read is at fault
after_one_branch : noted (map line (s.Declared (declares word.Var 1) ∷ s.If (head 2) (test 3) brackets (sets 4 ∷ []) ∷ reads 5 ∷ [])) ≡ unassigned 5
unfolding unassigned_reads assigned_again
after_one_branch = told noted (shows (shown_Declared (declares word.Var 1)) (shows (shown_If (head 2) brackets (shown_test 3) (shows (shown_sets 4) none_shows)) (shows (shown_reads 5) none_shows))) refl

-- `var x: Int; if (c) { x = 1 } else { x = 1 }; x`: it isn't
after_both_branches : noted (map line (s.Declared (declares word.Var 1) ∷ s.IfElse (head 2) (test 3) brackets (sets 4 ∷ []) (at 0) brackets (sets 5 ∷ []) ∷ reads 6 ∷ [])) ≡ []
unfolding unassigned_reads assigned_again
after_both_branches = told noted (shows (shown_Declared (declares word.Var 1)) (shows (shown_IfElse (head 2) brackets (at 0) brackets (shown_test 3) (shows (shown_sets 4) none_shows) (shows (shown_sets 5) none_shows)) (shows (shown_reads 6) none_shows))) refl

-- `var x: Int; if (c) { return } else { x = 1 }; x`: nor where the other way goes on nowhere
after_a_return : noted (map line (s.Declared (declares word.Var 1) ∷ s.IfElse (head 2) (test 3) brackets (s.Return (at 4) None ∷ []) (at 0) brackets (sets 5 ∷ []) ∷ reads 6 ∷ [])) ≡ []
unfolding unassigned_reads assigned_again
after_a_return = told noted (shows (shown_Declared (declares word.Var 1)) (shows (shown_IfElse (head 2) brackets (at 0) brackets (shown_test 3) (shows (shown_Return (at 4) None) none_shows) (shows (shown_sets 5) none_shows)) (shows (shown_reads 6) none_shows))) refl

-- `var x: Int; run { x = 1 }; x`: nor behind a `run` that assigns it
assigned_in_run : noted (map line (s.Declared (declares word.Var 1) ∷ s.Expression (e.Run (at 2) brackets (sets 3 ∷ [])) ∷ reads 4 ∷ [])) ≡ []
unfolding unassigned_reads assigned_again
assigned_in_run = told noted (shows (shown_Declared (declares word.Var 1)) (shows (shown_runs 2 (shows (shown_sets 3) none_shows)) (shows (shown_reads 4) none_shows))) refl

-- `var x: Int; if (c) { x = 1 } else { run { return } }; x`: nor where the other way leaves by a `run`
returned_in_run : noted (map line (s.Declared (declares word.Var 1) ∷ s.IfElse (head 2) (test 3) brackets (sets 4 ∷ []) (at 0) brackets (s.Expression (e.Run (at 5) brackets (s.Return (at 6) None ∷ [])) ∷ []) ∷ reads 7 ∷ [])) ≡ []
unfolding unassigned_reads assigned_again
returned_in_run = told noted (shows (shown_Declared (declares word.Var 1)) (shows (shown_IfElse (head 2) brackets (at 0) brackets (shown_test 3) (shows (shown_sets 4) none_shows) (shows (shown_runs 5 (shows (shown_Return (at 6) None) none_shows)) none_shows)) (shows (shown_reads 7) none_shows))) refl

-- `var x: Int; F { x = 1 }; x`: what a lambda assigns doesn't count
assigned_in_a_lambda : noted (map line (s.Declared (declares word.Var 1) ∷ s.Expression (e.Lambda face brackets no_names (sets 3 ∷ [])) ∷ reads 4 ∷ [])) ≡ unassigned 4
unfolding unassigned_reads assigned_again
assigned_in_a_lambda = told noted (shows (shown_Declared (declares word.Var 1)) (shows (shown_lambda 2 (shows (shown_sets 3) none_shows)) (shows (shown_reads 4) none_shows))) refl

-- `var x: Int; F { x }; x = 1`: a lambda begins with what is assigned where it stands
read_in_a_lambda : noted (map line (s.Declared (declares word.Var 1) ∷ s.Expression (e.Lambda face brackets no_names (reads 3 ∷ [])) ∷ sets 4 ∷ [])) ≡ unassigned 3
unfolding unassigned_reads assigned_again
read_in_a_lambda = told noted (shows (shown_Declared (declares word.Var 1)) (shows (shown_lambda 2 (shows (shown_reads 3) none_shows)) (shows (shown_sets 4) none_shows))) refl

-- `var x: Int; do { if (c) { continue }; x = 1 } while (x)`: `continue` comes to the test without it
continued_to_a_test : noted (map line (s.Declared (declares word.Var 1) ∷ s.DoWhile None (at 2) brackets (s.If (head 3) (test 4) brackets (s.Continue (at 5) None ∷ []) ∷ sets 6 ∷ []) (head 7) (it 8) ∷ [])) ≡ unassigned 8
unfolding unassigned_reads assigned_again
continued_to_a_test = told noted (shows (shown_Declared (declares word.Var 1)) (shows (shown_DoWhile None (at 2) brackets (head 7) (shows (shown_If (head 3) brackets (shown_test 4) (shows (shown_Continue (at 5) None) none_shows)) (shows (shown_sets 6) none_shows)) (shown_Name (called x 8))) none_shows)) refl

-- `var x: Int; try { x = 1 } finally { x }; x`: the read in `finally` is at fault, the one behind it isn't
in_finally : noted (map line (s.Declared (declares word.Var 1) ∷ s.TryFinally (at 2) brackets (sets 3 ∷ []) [] (last 2) (reads 4 ∷ []) ∷ reads 5 ∷ [])) ≡ unassigned 4
unfolding unassigned_reads assigned_again
in_finally = told noted (shows (shown_Declared (declares word.Var 1)) (shows (shown_TryFinally (at 2) brackets (last 2) (shows (shown_sets 3) none_shows) no_catch (shows (shown_reads 4) none_shows)) (shows (shown_reads 5) none_shows))) refl

-- `var x: Int; synchronized(c) { if (c) { return@synchronized }; x = 1 }; x`: the jump comes behind the block without it
unlocked_before : noted (map line (s.Declared (declares word.Var 1) ∷ s.Synchronized (head 2) (test 2) brackets (s.If (head 3) (test 4) brackets (s.Return (at 5) (Some (lock 5)) ∷ []) ∷ sets 6 ∷ []) ∷ reads 7 ∷ [])) ≡ unassigned 7
unfolding unassigned_reads assigned_again
unlocked_before = told noted (shows (shown_Declared (declares word.Var 1)) (shows (shown_Synchronized (head 2) brackets (shown_test 2) (shows (shown_If (head 3) brackets (shown_test 4) (shows (shown_Return (at 5) (Some (lock 5))) none_shows)) (shows (shown_sets 6) none_shows))) (shows (shown_reads 7) none_shows))) refl

-- `var x: Int; synchronized(c) { x = 1; return@synchronized }; x`: here it comes with it
unlocked_behind : noted (map line (s.Declared (declares word.Var 1) ∷ s.Synchronized (head 2) (test 2) brackets (sets 3 ∷ s.Return (at 4) (Some (lock 4)) ∷ []) ∷ reads 5 ∷ [])) ≡ []
unfolding unassigned_reads assigned_again
unlocked_behind = told noted (shows (shown_Declared (declares word.Var 1)) (shows (shown_Synchronized (head 2) brackets (shown_test 2) (shows (shown_sets 3) (shows (shown_Return (at 4) (Some (lock 4))) none_shows))) (shows (shown_reads 5) none_shows))) refl

-- `var x: Int; synchronized(c) { if (c) { return }; x = 1 }; x`: `return` leaves the body
returned_in_a_lock : noted (map line (s.Declared (declares word.Var 1) ∷ s.Synchronized (head 2) (test 2) brackets (s.If (head 3) (test 4) brackets (s.Return (at 5) None ∷ []) ∷ sets 6 ∷ []) ∷ reads 7 ∷ [])) ≡ []
unfolding unassigned_reads assigned_again
returned_in_a_lock = told noted (shows (shown_Declared (declares word.Var 1)) (shows (shown_Synchronized (head 2) brackets (shown_test 2) (shows (shown_If (head 3) brackets (shown_test 4) (shows (shown_Return (at 5) None) none_shows)) (shows (shown_sets 6) none_shows))) (shows (shown_reads 7) none_shows))) refl

-- `val c: Int; c`, where the parameter `c` has its value: a name means its nearest declaration
nearest : noted (map line (s.Declared (record { word = word.Val; at = at 1; name = called c 1; colon = at 1; kind = int }) ∷ s.Expression (test 2) ∷ [])) ≡ unassigned 2
unfolding unassigned_reads assigned_again
nearest = told noted (shows (shown_Declared (record { word = word.Val; at = at 1; name = called c 1; colon = at 1; kind = int })) (shows (shown_Expression (shown_test 2)) none_shows)) refl

-- ---- K10

-- `val x: Int; while (c) { x = 1 }` assigns it again
again_in_a_loop : noted (map line (s.Declared (declares word.Val 1) ∷ s.While None (head 2) (test 3) brackets (sets 4 ∷ []) ∷ [])) ≡ again 4
unfolding unassigned_reads assigned_again
again_in_a_loop = told noted (shows (shown_Declared (declares word.Val 1)) (shows (shown_While None (head 2) brackets (shown_test 3) (shows (shown_sets 4) none_shows)) none_shows)) refl

-- `val x: Int; while (true) { x = 1; break }` doesn't
once_in_a_loop : noted (map line (s.Declared (declares word.Val 1) ∷ s.While None (head 2) (always 3) brackets (sets 4 ∷ s.Break (at 5) None ∷ []) ∷ [])) ≡ []
unfolding unassigned_reads assigned_again
once_in_a_loop = told noted (shows (shown_Declared (declares word.Val 1)) (shows (shown_While None (head 2) brackets (shown_always 3) (shows (shown_sets 4) (shows (shown_Break (at 5) None) none_shows))) none_shows)) refl

-- nor is a `var` at fault
again_as_var : noted (map line (s.Declared (declares word.Var 1) ∷ s.While None (head 2) (test 3) brackets (sets 4 ∷ []) ∷ [])) ≡ []
unfolding unassigned_reads assigned_again
again_as_var = told noted (shows (shown_Declared (declares word.Var 1)) (shows (shown_While None (head 2) brackets (shown_test 3) (shows (shown_sets 4) none_shows)) none_shows)) refl

-- `val x: Int; try { x = 1 } finally { x = 1 }` does
again_in_finally : noted (map line (s.Declared (declares word.Val 1) ∷ s.TryFinally (at 2) brackets (sets 3 ∷ []) [] (last 2) (sets 4 ∷ []) ∷ [])) ≡ again 4
unfolding unassigned_reads assigned_again
again_in_finally = told noted (shows (shown_Declared (declares word.Val 1)) (shows (shown_TryFinally (at 2) brackets (last 2) (shows (shown_sets 3) none_shows) no_catch (shows (shown_sets 4) none_shows)) none_shows)) refl

-- `val x: Int; F { x = 1 }` may
again_by_a_lambda : noted (map line (s.Declared (declares word.Val 1) ∷ s.Expression (e.Lambda face brackets no_names (sets 3 ∷ [])) ∷ [])) ≡ again 3
unfolding unassigned_reads assigned_again
again_by_a_lambda = told noted (shows (shown_Declared (declares word.Val 1)) (shows (shown_lambda 2 (shows (shown_sets 3) none_shows)) none_shows)) refl

-- `val x: Int; synchronized(c) { if (c) { x = 1; return@synchronized } }; x = 1` does
again_behind_a_lock : noted (map line (s.Declared (declares word.Val 1) ∷ s.Synchronized (head 2) (test 2) brackets (s.If (head 3) (test 4) brackets (sets 5 ∷ s.Return (at 6) (Some (lock 6)) ∷ []) ∷ []) ∷ sets 7 ∷ [])) ≡ again 7
unfolding unassigned_reads assigned_again
again_behind_a_lock = told noted (shows (shown_Declared (declares word.Val 1)) (shows (shown_Synchronized (head 2) brackets (shown_test 2) (shows (shown_If (head 3) brackets (shown_test 4) (shows (shown_sets 5) (shows (shown_Return (at 6) (Some (lock 6))) none_shows))) none_shows)) (shows (shown_sets 7) none_shows))) refl

-- `val x: Int; if (c) { x = 1 } else { x = 1 }` assigns it once
in_each_branch : noted (map line (s.Declared (declares word.Val 1) ∷ s.IfElse (head 2) (test 3) brackets (sets 4 ∷ []) (at 0) brackets (sets 5 ∷ []) ∷ [])) ≡ []
unfolding unassigned_reads assigned_again
in_each_branch = told noted (shows (shown_Declared (declares word.Val 1)) (shows (shown_IfElse (head 2) brackets (at 0) brackets (shown_test 3) (shows (shown_sets 4) none_shows) (shows (shown_sets 5) none_shows)) none_shows)) refl

-- ---- ends of bodies

-- `if (c) { return }` can end
ends_without_return : can_end (block (map line (s.If (head 1) (test 2) brackets (s.Return (at 3) None ∷ []) ∷ [])) (c ∷ [])) ≡ true
unfolding can_end
ends_without_return = told (λ ls. can_end (block ls (c ∷ []))) (shows (shown_If (head 1) brackets (shown_test 2) (shows (shown_Return (at 3) None) none_shows)) none_shows) refl

-- `if (c) { return } else { return }` can't
returns_on_both_ways : can_end (block (map line (s.IfElse (head 1) (test 2) brackets (s.Return (at 3) None ∷ []) (at 0) brackets (s.Return (at 4) None ∷ []) ∷ [])) (c ∷ [])) ≡ false
unfolding can_end
returns_on_both_ways = told (λ ls. can_end (block ls (c ∷ []))) (shows (shown_IfElse (head 1) brackets (at 0) brackets (shown_test 2) (shows (shown_Return (at 3) None) none_shows) (shows (shown_Return (at 4) None) none_shows)) none_shows) refl

-- `while (true) { x = 1 }` can't
loops_for_ever : can_end (block (map line (s.While None (head 1) (always 2) brackets (sets 3 ∷ []) ∷ [])) (c ∷ [])) ≡ false
unfolding can_end
loops_for_ever = told (λ ls. can_end (block ls (c ∷ []))) (shows (shown_While None (head 1) brackets (shown_always 2) (shows (shown_sets 3) none_shows)) none_shows) refl

-- `while (true) { break }` can
breaks_out : can_end (block (map line (s.While None (head 1) (always 2) brackets (s.Break (at 3) None ∷ []) ∷ [])) (c ∷ [])) ≡ true
unfolding can_end
breaks_out = told (λ ls. can_end (block ls (c ∷ []))) (shows (shown_While None (head 1) brackets (shown_always 2) (shows (shown_Break (at 3) None) none_shows)) none_shows) refl

-- `if (true) { return }` can: only the test of a loop says where control comes
tests_no_constant : can_end (block (map line (s.If (head 1) (always 2) brackets (s.Return (at 3) None ∷ []) ∷ [])) (c ∷ [])) ≡ true
unfolding can_end
tests_no_constant = told (λ ls. can_end (block ls (c ∷ []))) (shows (shown_If (head 1) brackets (shown_always 2) (shows (shown_Return (at 3) None) none_shows)) none_shows) refl

-- `run { return }` can't
returns_by_run : can_end (block (map line (s.Expression (e.Run (at 1) brackets (s.Return (at 2) None ∷ [])) ∷ [])) (c ∷ [])) ≡ false
unfolding can_end
returns_by_run = told (λ ls. can_end (block ls (c ∷ []))) (shows (shown_runs 1 (shows (shown_Return (at 2) None) none_shows)) none_shows) refl

-- `F { return }` can
returns_by_a_lambda : can_end (block (map line (s.Expression (e.Lambda face brackets no_names (s.Return (at 2) None ∷ [])) ∷ [])) (c ∷ [])) ≡ true
unfolding can_end
returns_by_a_lambda = told (λ ls. can_end (block ls (c ∷ []))) (shows (shown_lambda 1 (shows (shown_Return (at 2) None) none_shows)) none_shows) refl

-- `synchronized(c) { return }` can't
returns_from_a_lock : can_end (block (map line (s.Synchronized (head 1) (test 1) brackets (s.Return (at 2) None ∷ []) ∷ [])) (c ∷ [])) ≡ false
unfolding can_end
returns_from_a_lock = told (λ ls. can_end (block ls (c ∷ []))) (shows (shown_Synchronized (head 1) brackets (shown_test 1) (shows (shown_Return (at 2) None) none_shows)) none_shows) refl

-- `synchronized(c) { return@synchronized }` can
leaves_a_lock : can_end (block (map line (s.Synchronized (head 1) (test 1) brackets (s.Return (at 2) (Some (lock 2)) ∷ []) ∷ [])) (c ∷ [])) ≡ true
unfolding can_end
leaves_a_lock = told (λ ls. can_end (block ls (c ∷ []))) (shows (shown_Synchronized (head 1) brackets (shown_test 1) (shows (shown_Return (at 2) (Some (lock 2))) none_shows)) none_shows) refl

-- `try { return } finally { x = 1 }` can't
finally_lets_through : can_end (block (map line (s.TryFinally (at 1) brackets (s.Return (at 2) None ∷ []) [] (last 1) (sets 3 ∷ []) ∷ [])) (c ∷ [])) ≡ false
unfolding can_end
finally_lets_through = told (λ ls. can_end (block ls (c ∷ []))) (shows (shown_TryFinally (at 1) brackets (last 1) (shows (shown_Return (at 2) None) none_shows) no_catch (shows (shown_sets 3) none_shows)) none_shows) refl

-- `try { x = 1 } finally { return }` can't
finally_returns : can_end (block (map line (s.TryFinally (at 1) brackets (sets 2 ∷ []) [] (last 1) (s.Return (at 3) None ∷ []) ∷ [])) (c ∷ [])) ≡ false
unfolding can_end
finally_returns = told (λ ls. can_end (block ls (c ∷ []))) (shows (shown_TryFinally (at 1) brackets (last 1) (shows (shown_sets 2) none_shows) no_catch (shows (shown_Return (at 3) None) none_shows)) none_shows) refl

-- `while (true) { try { break } finally { return } }` can't
break_through_finally : can_end (block (map line (s.While None (head 1) (always 2) brackets (s.TryFinally (at 3) brackets (s.Break (at 4) None ∷ []) [] (last 3) (s.Return (at 5) None ∷ []) ∷ []) ∷ [])) (c ∷ [])) ≡ false
unfolding can_end
break_through_finally = told (λ ls. can_end (block ls (c ∷ []))) (shows (shown_While None (head 1) brackets (shown_always 2) (shows (shown_TryFinally (at 3) brackets (last 3) (shows (shown_Break (at 4) None) none_shows) no_catch (shows (shown_Return (at 5) None) none_shows)) none_shows)) none_shows) refl

-- what stands behind `run { return }` isn't reached
behind_run : unreachable_statements (block (map line (s.Expression (e.Run (at 1) brackets (s.Return (at 2) None ∷ [])) ∷ sets 3 ∷ [])) (c ∷ [])) ≡ Reaches (at 3) ∷ []
unfolding unreachable_statements
behind_run = told (λ ls. unreachable_statements (block ls (c ∷ []))) (shows (shown_runs 1 (shows (shown_Return (at 2) None) none_shows)) (shows (shown_sets 3) none_shows)) refl
