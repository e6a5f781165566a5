-- Worked rows: small texts, and what the definitions say of them.
use Rattle.std.proofs.Common.{◌≡◌, ℕ, pos, true, false, List, [], ◌∷◌, Option, Some, None, refl, ap, ◌∙◌}
use Rattle.std.specs.List.{list_any}
use Rattle.java_tree.specs.declared.tokens.Position.{Position}
use Rattle.j2k_base.specs.declared.constants.Kind.TheVariants as kind
use Rattle.j2k_base.specs.declared.constants.Const.TheVariants as const
use Rattle.j2k_base.specs.declared.constants.Value.TheVariants as value
use Rattle.java_typed.specs.declared.types.TType.{TType}
use Rattle.java_typed.specs.declared.types.TType.TheVariants as t
use Rattle.java_typed.specs.declared.exprs.TExpr.{TExpr}
use Rattle.java_typed.specs.declared.exprs.TExpr.TheVariants as e
use Rattle.java_typed.specs.declared.statements.TSimple.TheVariants as simple
use Rattle.java_typed.specs.declared.statements.TLabel.{TLabel}
use Rattle.java_typed.specs.declared.statements.TLabel.TheVariants as label
use Rattle.java_typed.specs.declared.statements.TCaseGroup.{TCaseGroup, roll-TCaseGroup}
use Rattle.java_typed.specs.declared.statements.TStatement.{TStatement}
use Rattle.java_typed.specs.declared.statements.TStatement.TheVariants as made
use Rattle.flow.specs.Acts.{Skip, Then, Jumps, If, Finally, Block, Switch}
use Rattle.flow.specs.Analyses.{Reads, Assigns, Reaches}
use Rattle.java_flow.specs.Variables.{JavaAct, Out, Behind, Next, Local, is_local, reached}
use Rattle.java_flow.specs.Statements.{Statement, CaseGroup, statement, statements, groups, any_default, is_default, nth, looped, looped_do, round}
use Rattle.java_flow.specs.Expressions.{Said, said, done, constant_by, named_by, assign_by}
use Rattle.java_flow.specs.Faults.{unassigned_reads, assigned_again, unreachable_statements, can_end}
use Rattle.java_flow.proofs.Forms.{said_Literal, said_Local, said_Assign, statement_Simple, statement_Block, statement_If, statement_IfElse, statement_While, statement_Try, statement_Do, statement_Switch, group, group_form}

abbrev at : ℕ → Position
at n = record { offset = n; line = 1; column = n }

abbrev x : List ℕ
x = 120 ∷ []

abbrev c : List ℕ
c = 99 ∷ []

abbrev int : TType
int = t.Number kind.Int

-- `c`
abbrev test : ℕ → TExpr
test n = e.Local c (at n) t.Boolean

-- `true`
abbrev always : ℕ → TExpr
always n = e.Literal (value.Number (const.Bool true)) (at n)

-- `x = 1;`
abbrev sets : ℕ → TStatement
sets n = made.Simple (at n) (simple.Value (e.Assign (e.Local x (at n) int) (at n) (e.Literal (value.Number (const.Int (pos 1))) (at n)))) []

-- `x;`, that is, a call that reads it
abbrev reads : ℕ → TStatement
reads n = made.Simple (at n) (simple.Value (e.Local x (at n) int)) []

abbrev returns : ℕ → TStatement
returns n = made.Simple (at n) (simple.Return None) []

abbrev breaks : ℕ → TStatement
breaks n = made.Simple (at n) (simple.Break None) []

abbrev continues : ℕ → TStatement
continues n = made.Simple (at n) (simple.Continue None) []

-- `case 1:`
abbrev case : ℕ → TLabel
case n = label.Case (at n) (value.Number (const.Int (pos 1))) (e.Literal (value.Number (const.Int (pos 1))) (at n))

abbrev group_of : TLabel → List TStatement → TCaseGroup
group_of l xs = roll-TCaseGroup (record { labels = l ∷ []; statements = xs })

abbrev nothing : ℕ → JavaAct
nothing n = Skip

-- ---- what the forms of these texts do

record Says (y : TExpr) (v : Said) : Type 0 where
  is : said (nth []) y ≡ v

record Shows (s : TStatement) (f : Statement) : Type 0 where
  is : statement nothing s ≡ f

record AllShow (xs : List TStatement) (m : JavaAct) : Type 0 where
  is : statements nothing xs ≡ m

test_said : (n : ℕ) → Says (test n) (named_by (Local c) (at n))
test_said n = record { is = said_Local (nth []) c (at n) t.Boolean }

always_said : (n : ℕ) → Says (always n) (constant_by (value.Number (const.Bool true)))
always_said n = record { is = said_Literal (nth []) (value.Number (const.Bool true)) (at n) }

shown_value : (n : ℕ) {y : TExpr} {v : Said} → Says y v → Shows (made.Simple (at n) (simple.Value y) []) (λ name. Then (reached (at n)) (done v))
shown_value n {y} h = record { is = statement_Simple nothing (at n) (simple.Value y) [] ∙ ap {B = Statement} (λ (v : Said) (name : Option (List ℕ)). Then (reached (at n)) (done v)) h.is }

assigned : (n : ℕ) → Says (e.Assign (e.Local x (at n) int) (at n) (e.Literal (value.Number (const.Int (pos 1))) (at n))) (assign_by (named_by (Local x) (at n)) (constant_by (value.Number (const.Int (pos 1)))))
assigned n = record {
  is = said_Assign (nth []) (e.Local x (at n) int) (at n) (e.Literal (value.Number (const.Int (pos 1))) (at n))
      ∙ ap (λ v. assign_by v (said (nth []) (e.Literal (value.Number (const.Int (pos 1))) (at n)))) (said_Local (nth []) x (at n) int)
      ∙ ap (λ v. assign_by (named_by (Local x) (at n)) v) (said_Literal (nth []) (value.Number (const.Int (pos 1))) (at n));
}

shown_sets : (n : ℕ) → Shows (sets n) (λ name. Then (reached (at n)) (done (assign_by (named_by (Local x) (at n)) (constant_by (value.Number (const.Int (pos 1)))))))
shown_sets n = shown_value n (assigned n)

shown_reads : (n : ℕ) → Shows (reads n) (λ name. Then (reached (at n)) (done (named_by (Local x) (at n))))
shown_reads n = shown_value n (record { is = said_Local (nth []) x (at n) int })

shown_returns : (n : ℕ) → Shows (returns n) (λ name. Then (reached (at n)) (Jumps Out))
shown_returns n = record { is = statement_Simple nothing (at n) (simple.Return None) [] }

shown_breaks : (n : ℕ) → Shows (breaks n) (λ name. Then (reached (at n)) (Jumps Behind))
shown_breaks n = record { is = statement_Simple nothing (at n) (simple.Break None) [] }

shown_if : (n : ℕ) {y : TExpr} {s : TStatement} {v : Said} {f : Statement} → Says y v → Shows s f →
    Shows (made.If (at n) y [] s) (λ name. Then (reached (at n)) (If false v.test (f None) Skip))
shown_if n {y} {s} {v} {f} h does = record {
  is = statement_If nothing (at n) y [] s
      ∙ ap {B = Statement} (λ (w : Said) (name : Option (List ℕ)). Then (reached (at n)) (If false w.test (statement nothing s None) Skip)) h.is
      ∙ ap {B = Statement} (λ (g : Statement) (name : Option (List ℕ)). Then (reached (at n)) (If false v.test (g None) Skip)) does.is;
}

shown_else : (n : ℕ) {y : TExpr} {s r : TStatement} {v : Said} {f g : Statement} → Says y v → Shows s f → Shows r g →
    Shows (made.IfElse (at n) y [] s r) (λ name. Then (reached (at n)) (If false v.test (f None) (g None)))
shown_else n {y} {s} {r} {v} {f} {g} h does others = record {
  is = statement_IfElse nothing (at n) y [] s r
      ∙ ap {B = Statement} (λ (w : Said) (name : Option (List ℕ)). Then (reached (at n)) (If false w.test (statement nothing s None) (statement nothing r None))) h.is
      ∙ ap {B = Statement} (λ (z : Statement) (name : Option (List ℕ)). Then (reached (at n)) (If false v.test (z None) (statement nothing r None))) does.is
      ∙ ap {B = Statement} (λ (z : Statement) (name : Option (List ℕ)). Then (reached (at n)) (If false v.test (f None) (z None))) others.is;
}

shown_while : (n : ℕ) {y : TExpr} {s : TStatement} {v : Said} {f : Statement} → Says y v → Shows s f →
    Shows (made.While (at n) y [] s) (λ name. Then (reached (at n)) (looped v.test (round name f)))
shown_while n {y} {s} {v} {f} h does = record {
  is = statement_While nothing (at n) y [] s
      ∙ ap {B = Statement} (λ (w : Said) (name : Option (List ℕ)). Then (reached (at n)) (looped w.test (round name (statement nothing s)))) h.is
      ∙ ap {B = Statement} (λ (g : Statement) (name : Option (List ℕ)). Then (reached (at n)) (looped v.test (round name g))) does.is;
}

end_of : AllShow [] Skip
end_of = record { is = refl }

then_ : {s : TStatement} {more : List TStatement} {f : Statement} {m : JavaAct} → Shows s f → AllShow more m → AllShow (s ∷ more) (Then (f None) m)
then_ {s} {more} {f} {m} h rest = record { is = ap (λ (g : Statement). Then (g None) (statements nothing more)) h.is ∙ ap (λ (a : JavaAct). Then (f None) a) rest.is }

shown_block : (n k : ℕ) {xs : List TStatement} {m : JavaAct} → AllShow xs m → Shows (made.Block (at n) xs (at k)) (λ name. Then (reached (at n)) m)
shown_block n k {xs} h = record { is = statement_Block nothing (at n) xs (at k) ∙ ap {B = Statement} (λ (a : JavaAct) (name : Option (List ℕ)). Then (reached (at n)) a) h.is }

shown_try : (n : ℕ) {xs ys : List TStatement} {m l : JavaAct} → AllShow xs m → AllShow ys l → Shows (made.Try (at n) xs [] (Some (at n)) ys) (λ name. Then (reached (at n)) (Finally m l))
shown_try n {xs} {ys} {m} {l} h last = record {
  is = statement_Try nothing (at n) xs [] (Some (at n)) ys
      ∙ ap {B = Statement} (λ (a : JavaAct) (name : Option (List ℕ)). Then (reached (at n)) (Finally a (statements nothing ys))) h.is
      ∙ ap {B = Statement} (λ (a : JavaAct) (name : Option (List ℕ)). Then (reached (at n)) (Finally m a)) last.is;
}

shown_continues : (n : ℕ) → Shows (continues n) (λ name. Then (reached (at n)) (Jumps Next))
shown_continues n = record { is = statement_Simple nothing (at n) (simple.Continue None) [] }

shown_do : (n : ℕ) {y : TExpr} {s : TStatement} {v : Said} {f : Statement} → Shows s f → Says y v →
    Shows (made.Do (at n) s y []) (λ name. Then (reached (at n)) (looped_do (round name f) v.test))
shown_do n {y} {s} {v} {f} does h = record {
  is = statement_Do nothing (at n) s y []
      ∙ ap {B = Statement} (λ (w : Said) (name : Option (List ℕ)). Then (reached (at n)) (looped_do (round name (statement nothing s)) w.test)) h.is
      ∙ ap {B = Statement} (λ (g : Statement) (name : Option (List ℕ)). Then (reached (at n)) (looped_do (round name g) v.test)) does.is;
}

record GroupShows (g : TCaseGroup) (h : CaseGroup) : Type 0 where
  is : group nothing g ≡ h

shown_group : (l : TLabel) {xs : List TStatement} {m : JavaAct} → AllShow xs m → GroupShows (group_of l xs) (record { does = m; has_default = list_any is_default (l ∷ []) })
shown_group l {xs} h = record {
  is = group_form nothing (record { labels = l ∷ []; statements = xs })
      ∙ ap {B = CaseGroup} (λ (a : JavaAct). record { does = a; has_default = list_any is_default (l ∷ []) }) h.is;
}

shown_switch : (n : ℕ) {y : TExpr} {g : TCaseGroup} {v : Said} {h : CaseGroup} → Says y v → GroupShows g h →
    Shows (made.Switch (at n) y [] (g ∷ [])) (λ name. Then (reached (at n)) (Then (done v) (Block Behind (Switch (any_default (h ∷ [])) (groups (h ∷ []))))))
shown_switch n {y} {g} {v} {h} says shows = record {
  is = statement_Switch nothing (at n) y [] (g ∷ [])
      ∙ ap {B = Statement} (λ (w : Said) (name : Option (List ℕ)). Then (reached (at n)) (Then (done w) (Block Behind (Switch (any_default (group nothing g ∷ [])) (groups (group nothing g ∷ [])))))) says.is
      ∙ ap {B = Statement} (λ (k : CaseGroup) (name : Option (List ℕ)). Then (reached (at n)) (Then (done v) (Block Behind (Switch (any_default (k ∷ [])) (groups (k ∷ [])))))) shows.is;
}

-- what is told of the acts is told of the text
told : {A : Type 0} (of : JavaAct → A) {xs : List TStatement} {m : JavaAct} {a : A} → AllShow xs m → of m ≡ a → of (statements nothing xs) ≡ a
told of h is = ap of h.is ∙ is

-- ---- definite assignment

-- `if (c) x = 1; x;`: the read is at fault
after_one_branch : unassigned_reads (is_local x) false (statements nothing (made.If (at 1) (test 2) [] (sets 3) ∷ reads 4 ∷ [])) ≡ Reads (Local x) (at 4) ∷ []
unfolding unassigned_reads
after_one_branch = told (unassigned_reads (is_local x) false) (then_ (shown_if 1 (test_said 2) (shown_sets 3)) (then_ (shown_reads 4) end_of)) refl

-- `if (c) x = 1; else x = 1; x;`: it isn't
after_both_branches : unassigned_reads (is_local x) false (statements nothing (made.IfElse (at 1) (test 2) [] (sets 3) (sets 4) ∷ reads 5 ∷ [])) ≡ []
unfolding unassigned_reads
after_both_branches = told (unassigned_reads (is_local x) false) (then_ (shown_else 1 (test_said 2) (shown_sets 3) (shown_sets 4)) (then_ (shown_reads 5) end_of)) refl

-- `if (c) return; else x = 1; x;`: nor where the other way goes on nowhere
after_a_return : unassigned_reads (is_local x) false (statements nothing (made.IfElse (at 1) (test 2) [] (returns 3) (sets 4) ∷ reads 5 ∷ [])) ≡ []
unfolding unassigned_reads
after_a_return = told (unassigned_reads (is_local x) false) (then_ (shown_else 1 (test_said 2) (shown_returns 3) (shown_sets 4)) (then_ (shown_reads 5) end_of)) refl

-- `try { x = 1; } finally { x; } x;`: the read in `finally` is at fault, the one behind it isn't
in_finally : unassigned_reads (is_local x) false (statements nothing (made.Try (at 1) (sets 2 ∷ []) [] (Some (at 1)) (reads 3 ∷ []) ∷ reads 4 ∷ [])) ≡ Reads (Local x) (at 3) ∷ []
unfolding unassigned_reads
in_finally = told (unassigned_reads (is_local x) false) (then_ (shown_try 1 (then_ (shown_sets 2) end_of) (then_ (shown_reads 3) end_of)) (then_ (shown_reads 4) end_of)) refl

-- `do { if (c) continue; x = 1; } while (x);`: `continue` comes to the test without it
continued_to_a_test : unassigned_reads (is_local x) false (statements nothing (made.Do (at 1) (made.Block (at 2) (made.If (at 3) (test 4) [] (continues 5) ∷ sets 6 ∷ []) (at 7)) (e.Local x (at 8) t.Boolean) [] ∷ [])) ≡ Reads (Local x) (at 8) ∷ []
unfolding unassigned_reads
continued_to_a_test = told (unassigned_reads (is_local x) false) (then_ (shown_do 1 (shown_block 2 7 (then_ (shown_if 3 (test_said 4) (shown_continues 5)) (then_ (shown_sets 6) end_of))) (record { is = said_Local (nth []) x (at 8) t.Boolean })) end_of) refl

-- `switch (c) { case 1: x = 1; } x;`: at fault, where no group may be chosen
without_default : unassigned_reads (is_local x) false (statements nothing (made.Switch (at 1) (test 2) [] (group_of (case 3) (sets 4 ∷ []) ∷ []) ∷ reads 5 ∷ [])) ≡ Reads (Local x) (at 5) ∷ []
unfolding unassigned_reads
without_default = told (unassigned_reads (is_local x) false) (then_ (shown_switch 1 (test_said 2) (shown_group (case 3) (then_ (shown_sets 4) end_of))) (then_ (shown_reads 5) end_of)) refl

-- `switch (c) { default: x = 1; } x;`: it isn't
with_default : unassigned_reads (is_local x) false (statements nothing (made.Switch (at 1) (test 2) [] (group_of (label.Default (at 3)) (sets 4 ∷ []) ∷ []) ∷ reads 5 ∷ [])) ≡ []
unfolding unassigned_reads
with_default = told (unassigned_reads (is_local x) false) (then_ (shown_switch 1 (test_said 2) (shown_group (label.Default (at 3)) (then_ (shown_sets 4) end_of))) (then_ (shown_reads 5) end_of)) refl

-- ---- definite unassignment

-- `while (c) x = 1;` assigns it again
again_in_a_loop : assigned_again (is_local x) true (statements nothing (made.While (at 1) (test 2) [] (sets 3) ∷ [])) ≡ Assigns (Local x) (at 3) ∷ []
unfolding assigned_again
again_in_a_loop = told (assigned_again (is_local x) true) (then_ (shown_while 1 (test_said 2) (shown_sets 3)) end_of) refl

-- `while (true) { x = 1; break; }` doesn't
once_in_a_loop : assigned_again (is_local x) true (statements nothing (made.While (at 1) (always 2) [] (made.Block (at 3) (sets 4 ∷ breaks 5 ∷ []) (at 6)) ∷ [])) ≡ []
unfolding assigned_again
once_in_a_loop = told (assigned_again (is_local x) true) (then_ (shown_while 1 (always_said 2) (shown_block 3 6 (then_ (shown_sets 4) (then_ (shown_breaks 5) end_of)))) end_of) refl

-- `try { x = 1; } finally { x = 1; }` does
again_in_finally : assigned_again (is_local x) true (statements nothing (made.Try (at 1) (sets 2 ∷ []) [] (Some (at 1)) (sets 3 ∷ []) ∷ [])) ≡ Assigns (Local x) (at 3) ∷ []
unfolding assigned_again
again_in_finally = told (assigned_again (is_local x) true) (then_ (shown_try 1 (then_ (shown_sets 2) end_of) (then_ (shown_sets 3) end_of)) end_of) refl

-- ---- reachability

-- `return; x = 1;`
behind_return : unreachable_statements (statements nothing (returns 1 ∷ sets 2 ∷ [])) ≡ Reaches (at 2) ∷ []
unfolding unreachable_statements
behind_return = told unreachable_statements (then_ (shown_returns 1) (then_ (shown_sets 2) end_of)) refl

-- `if (true) return; x = 1;` reaches it, though `x` counts as assigned there: only the test of a loop says where control comes
behind_if : unreachable_statements (statements nothing (made.If (at 1) (always 2) [] (returns 3) ∷ sets 4 ∷ [])) ≡ []
unfolding unreachable_statements
behind_if = told unreachable_statements (then_ (shown_if 1 (always_said 2) (shown_returns 3)) (then_ (shown_sets 4) end_of)) refl

read_behind_if : unassigned_reads (is_local x) false (statements nothing (made.If (at 1) (always 2) [] (returns 3) ∷ reads 4 ∷ [])) ≡ []
unfolding unassigned_reads
read_behind_if = told (unassigned_reads (is_local x) false) (then_ (shown_if 1 (always_said 2) (shown_returns 3)) (then_ (shown_reads 4) end_of)) refl

-- `if (c) return;` can end, `while (true) x = 1;` can't, nor does the statement behind it come
ends_without_return : can_end (statements nothing (made.If (at 1) (test 2) [] (returns 3) ∷ [])) ≡ true
unfolding can_end
ends_without_return = told can_end (then_ (shown_if 1 (test_said 2) (shown_returns 3)) end_of) refl

loops_for_ever : can_end (statements nothing (made.While (at 1) (always 2) [] (sets 3) ∷ [])) ≡ false
unfolding can_end
loops_for_ever = told can_end (then_ (shown_while 1 (always_said 2) (shown_sets 3)) end_of) refl

breaks_out : can_end (statements nothing (made.While (at 1) (always 2) [] (breaks 3) ∷ [])) ≡ true
unfolding can_end
breaks_out = told can_end (then_ (shown_while 1 (always_said 2) (shown_breaks 3)) end_of) refl

-- `try { x = 1; } finally { return; } x = 1;`: a `finally` that can't end ends all
finally_returns : unreachable_statements (statements nothing (made.Try (at 1) (sets 2 ∷ []) [] (Some (at 1)) (returns 3 ∷ []) ∷ sets 4 ∷ [])) ≡ Reaches (at 4) ∷ []
unfolding unreachable_statements
finally_returns = told unreachable_statements (then_ (shown_try 1 (then_ (shown_sets 2) end_of) (then_ (shown_returns 3) end_of)) (then_ (shown_sets 4) end_of)) refl

-- `while (true) { try { break; } finally { return; } }`: nor does a jump get through it
break_through_finally : can_end (statements nothing (made.While (at 1) (always 2) [] (made.Try (at 3) (breaks 4 ∷ []) [] (Some (at 3)) (returns 5 ∷ [])) ∷ [])) ≡ false
unfolding can_end
break_through_finally = told can_end (then_ (shown_while 1 (always_said 2) (shown_try 3 (then_ (shown_breaks 4) end_of) (then_ (shown_returns 5) end_of))) end_of) refl
