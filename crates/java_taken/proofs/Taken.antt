-- A unit that is taken is well typed, and its names are those of both languages.
use Rattle.std.proofs.Common.{◌≡◌, ◌⊎◌, inl, inr, ℕ, zero, suc, Bool, true, false, cond, ◌&&◌, ◌||◌, not, List, [], ◌∷◌, ◌++◌, map, length, Option, Some, None, refl, sym, ◌∙◌, ap, subst, arith}
use Rattle.std.specs.Prelude.{◌==◌, is_some, nat_lt, option_map, codes}
use Rattle.std.specs.List.{list_any, AllByRecursion}
use Rattle.std.specs.Str.{bytes_eq}
use Rattle.std.proofs.lemmas.List.Folds.{list_any-append}
use Rattle.std.proofs.lemmas.Bool.Decides.{nat_tests}
use Rattle.std.proofs.lemmas.Slice.Eq.{bytes_eq-Decides}
use Rattle.java_tree.specs.declared.tokens.Comment.{Comment}
use Rattle.java_tree.specs.declared.tokens.Position.{Position}
use Rattle.java_tree.specs.declared.types.JDotted.{JDotted}
use Rattle.java_tree.specs.declared.exprs.JTypedParam.{JTypedParam}
use Rattle.java_tree.specs.declared.exprs.JExpr.{JExpr, out-JExpr}
use Rattle.java_tree.specs.declared.exprs.JExpr.TheOpen.{JExpr-F}
use Rattle.java_tree.specs.Seen.{Tokens}
use Rattle.java_tree.specs.Trees.{any_level, TypeStands, TypedStands, Stands, stands_by}
use Rattle.java_statement_grammar.specs.declared.declarations.JValue.{JValue}
use Rattle.java_statement_grammar.specs.declared.declarations.JDeclarator.{JDeclarator}
use Rattle.java_statement_grammar.specs.declared.statements.JSimple.{JSimple}
use Rattle.java_statement_grammar.specs.declared.statements.JSimple.TheVariants as simple
use Rattle.java_statement_grammar.specs.Heads.{value_stands, DeclaratorStands, SimpleStands}
use Rattle.java_member_grammar.specs.declared.heads.JMemberHead.{JMemberHead}
use Rattle.java_member_grammar.specs.declared.heads.JMemberHead.TheVariants as head
use Rattle.java_member_grammar.specs.declared.lines.JPackage.{JPackage}
use Rattle.java_unit_grammar.specs.declared.statements.JBody.{JBody}
use Rattle.java_unit_grammar.specs.declared.statements.JCase.{JCase}
use Rattle.java_unit_grammar.specs.declared.statements.JCaseGroup.{JCaseGroup}
use Rattle.java_unit_grammar.specs.declared.statements.JCatch.{JCatch}
use Rattle.java_unit_grammar.specs.declared.statements.JMember.{JMember, out-JMember}
use Rattle.java_unit_grammar.specs.declared.statements.JStatement.{JStatement, out-JStatement}
use Rattle.java_unit_grammar.specs.declared.statements.JBody.TheOpen.{JMember-F, JStatement-F}
use Rattle.java_unit_grammar.specs.declared.units.JUnit.{JUnit}
use Rattle.java_unit_grammar.specs.Standing.{Role, Owner, owner_of, Node, NodeStands, all_stand, block_stands, member_block, statement_stands, top_stands, file_stands, steps, TopStands, FileStands, UnitSpells}
use Rattle.java_typed.specs.declared.types.ClassRef.TheVariants.{Library}
use Rattle.java_typed.specs.declared.types.TResult.TheVariants as answer
use Rattle.java_typed.specs.declared.types.TType.{out-roll-TType}
use Rattle.java_typed.specs.declared.types.TType.TheOpen.{TType-F}
use Rattle.java_typed.specs.declared.types.TType.TheVariants as ty
use Rattle.java_typed.specs.declared.exprs.TExpr.{TExpr, out-TExpr, out-roll-TExpr}
use Rattle.java_typed.specs.declared.exprs.TExpr.TheOpen.{TExpr-F}
use Rattle.java_typed.specs.declared.exprs.TExpr.TheVariants as t
use Rattle.java_typed.specs.declared.statements.TBody.{TBody}
use Rattle.java_typed.specs.declared.statements.TBody.TheOpen.{TStatement-F}
use Rattle.java_typed.specs.declared.statements.TSimple.{TSimple}
use Rattle.java_typed.specs.declared.statements.TStatement.{TStatement, out-TStatement, out-roll-TStatement}
use Rattle.java_typed.specs.declared.statements.TStatement.TheVariants as made
use Rattle.java_typed.specs.declared.units.TMethod.{TMethod}
use Rattle.java_typed.specs.declared.units.TClass.{TClass}
use Rattle.java_typed.specs.declared.units.TUnit.{TUnit}
use Rattle.meanings.specs.Taken as m
use Rattle.meanings.specs.Taken.{is_taken, Statement, Declares, Prints, Untaken, MainMethod, MainClass}
use Rattle.meanings.specs.Values.{same_name, is_among}
use Rattle.meanings.specs.KSpells.{IsName, AreNames}
use Rattle.meanings.specs.JTyped.{Knows, AreTyped, MainIsTyped, ClassIsTyped, IsTypedFile}
use Rattle.meanings.specs.JNamed.{IsNamed, AreNamed, MainIsNamed, ClassIsNamed, JNamed}
use Rattle.java_taken.specs.Judged.{Judged, ◌>>=◌}
use Rattle.java_taken.specs.Names.{is_identifier, is_reserved, is_free, hides, is_variable, contains_name}
use Rattle.java_taken.specs.Places.{statement_at, member_at}
use Rattle.java_taken.specs.Expressions.{expression}
use Rattle.java_taken.specs.Statements.{may_declare, is_out, is_int, printed, called, declares, println, prints, valued, declared, simple_of, statement_of, declared_by, with_declared, names_after, statement, statements}
use Rattle.java_taken.specs.Units as u
use Rattle.java_taken.proofs.Typing.{typed_is, bind_typed, if_typed, both, identifier, SameLocals, AreIdentifiers, int_is, typed_expression}

-- ---- names

same_number : (b c : ℕ) → (b == c) ≡ (c == b)
same_number b c = grind (arith, nat_tests)

same_bytes : (x y : List ℕ) → same_name x y ≡ bytes_eq y x
same_bytes [] [] = refl
same_bytes [] (c ∷ y) = refl
same_bytes (b ∷ x) [] = refl
same_bytes (b ∷ x) (c ∷ y) = ap (λ t. t && same_name x y) (same_number b c) ∙ ap (λ t. (c == b) && t) (same_bytes x y)

chosen : (a b : Bool) → cond a true b ≡ (a || b)
chosen true b = refl
chosen false b = refl

record Free (name : List ℕ) : Type 0 where
  identifies : is_identifier name ≡ true
  named : IsName name

free : (name : List ℕ) → is_free name ≡ true → Free name
free name is =
    let two = both (is_identifier name) (not (is_reserved name)) is in
    record { identifies = two.0; named = identifier name two.0 }

identified : (name : List ℕ) → is_identifier name ≡ true → Free name
identified name is = record { identifies = is; named = identifier name is }

variable : (name : List ℕ) → is_variable name ≡ true → Free name
variable name is = identified name (both (is_identifier name) (not (hides name)) is).0

not_true : (a : Bool) → not a ≡ true → a ≡ false
not_true true e = cc
not_true false e = refl

swapped : (a b : Bool) → (a || b) ≡ (b || (a || false))
swapped true true = refl
swapped true false = refl
swapped false true = refl
swapped false false = refl

one_more : (locals names : List (List ℕ)) (name : List ℕ) → SameLocals locals names → SameLocals (name ∷ locals) (names ++ name ∷ [])
one_more locals names name same = λ other.
    chosen (same_name name other) (is_among locals other)
    ∙ ap (λ t. t || is_among locals other) (same_bytes name other)
    ∙ ap (λ t. bytes_eq other name || t) (same other)
    ∙ swapped (bytes_eq other name) (contains_name names other)
    ∙ sym (list_any-append (bytes_eq other) names (name ∷ []))

equal_bytes : (a b : List ℕ) → bytes_eq a b ≡ true → a ≡ b
equal_bytes a b e = grind (arith, nat_tests, bytes_eq-Decides a b)

identifier_more : (names : List (List ℕ)) (name : List ℕ) → AreIdentifiers names → is_identifier name ≡ true → AreIdentifiers (names ++ name ∷ [])
identifier_more names name identify is other among =
    by_test (contains_name names other) (bytes_eq other name) refl refl (sym (list_any-append (bytes_eq other) names (name ∷ [])) ∙ among)
  where
    by_test : (a b : Bool) → contains_name names other ≡ a → bytes_eq other name ≡ b → (a || (b || false)) ≡ true → is_identifier other ≡ true
    by_test true b e f h = identify other e
    by_test false true e f h = ap is_identifier (equal_bytes other name f) ∙ is
    by_test false false e f h = cc

-- ---- the trees that are made

out_simple : (at : Position) (x : TSimple) (bodies : List TBody) → out-TStatement (made.Simple at x bodies) ≡ TStatement-F.Simple at x bodies
out_simple at x bodies = ap out-TStatement (sym (made.rolls-Simple at x bodies)) ∙ out-roll-TStatement (TStatement-F.Simple at x bodies)

simple_is : (at : Position) (x : TSimple) → m.statement (made.Simple at x []) ≡ m.simple_by x
unfolding m.statement
simple_is at x = ap m.statement_by (out_simple at x [])

declares_is : (at : Position) (name : List ℕ) (name_at : Position) (e : TExpr) → m.statement (declares at name name_at e) ≡ Declares name e
declares_is at name name_at e = simple_is at _ ∙ ap (λ b. cond b (Declares name e) Untaken) int_is

out_call : (at name_at : Position) (e : TExpr) → out-TExpr (t.StaticCall at println name_at (e ∷ []) answer.Void) ≡ TExpr-F.StaticCall at println name_at (e ∷ []) answer.Void
out_call at name_at e = ap out-TExpr (sym (t.rolls-StaticCall at println name_at (e ∷ []) answer.Void)) ∙ out-roll-TExpr (TExpr-F.StaticCall at println name_at (e ∷ []) answer.Void)

println_is : m.is_println println ≡ true
unfolding m.is_println
println_is = refl

prints_is : (at name_at : Position) (e : TExpr) → m.statement (prints at name_at e) ≡ Prints e
prints_is at name_at e = simple_is at _ ∙ ap m.called_by (out_call at name_at e) ∙ ap (λ b. cond b (Prints e) Untaken) println_is

string_is : m.is_string (ty.Class (Library 1) []) ≡ true
unfolding m.is_string
string_is = ap m.is_string (sym (ty.rolls-Class (Library 1) [])) ∙ ap m.is_string_by (out-roll-TType (TType-F.Class (Library 1) []))

strings_are : m.is_strings u.strings_type ≡ true
unfolding m.is_strings
strings_are = ap m.is_strings (sym (ty.rolls-Array (ty.Class (Library 1) []))) ∙ ap m.is_strings_by (out-roll-TType (TType-F.Array (ty.Class (Library 1) []))) ∙ string_is

main_is : (first at : Position) (x : JTypedParam) (body : List TStatement) (closes : Position) →
    m.main_of_method (u.main_method first at x body closes) ≡ Some (record { parameter = x.name; body = map m.statement body })
main_is first at x body closes = ap (λ b. m.main_with (cond b (Some x.name) None) (Some (record { statements = body; closes = closes }))) strings_are

after_declares : (names : List (List ℕ)) (at : Position) (name : List ℕ) (name_at : Position) (e : TExpr) → names_after names (declares at name name_at e) ≡ cond (contains_name names name) names (names ++ name ∷ [])
unfolding names_after
after_declares names at name name_at e = ap (λ y. with_declared names (declared_by y)) (out_simple at _ [])

after_prints : (names : List (List ℕ)) (at name_at : Position) (e : TExpr) → names_after names (prints at name_at e) ≡ names
unfolding names_after
after_prints names at name_at e = ap (λ y. with_declared names (declared_by y)) (out_simple at _ [])

after_new : (names : List (List ℕ)) (at : Position) (name : List ℕ) (name_at : Position) (e : TExpr) → contains_name names name ≡ false → names ++ name ∷ [] ≡ names_after names (declares at name name_at e)
after_new names at name name_at e new = ap (λ b. cond b names (names ++ name ∷ [])) (sym new) ∙ sym (after_declares names at name name_at e)

-- ---- statements

-- what a declaration owes after the locals
record IsDeclared (parameter : List ℕ) (locals : List (List ℕ)) (s : TStatement) : Type 0 where
  at : Position
  name : List ℕ
  name_at : Position
  value : TExpr
  is : declares at name name_at value ≡ s
  free : Free name
  differs : same_name parameter name ≡ false
  new : is_among locals name ≡ false
  known : Knows locals value
  named : IsNamed value
  taken : is_taken value ≡ true

-- what a print owes after the locals
record IsPrinted (locals : List (List ℕ)) (s : TStatement) : Type 0 where
  at : Position
  name_at : Position
  value : TExpr
  is : prints at name_at value ≡ s
  known : Knows locals value
  named : IsNamed value
  taken : is_taken value ≡ true

abbrev Owes : List ℕ → List (List ℕ) → TStatement → Type 0
Owes parameter locals s = IsDeclared parameter locals s ⊎ IsPrinted locals s

-- what the statements of a body owe
record Body (parameter : List ℕ) (locals : List (List ℕ)) (body : List Statement) : Type 0 where
  typed : AreTyped parameter locals body
  named : AreNamed body
  taken : m.are_taken body ≡ true

module _ (classes : List (List ℕ)) (parameter : List ℕ) where
  module _ (locals names : List (List ℕ)) (same : SameLocals locals names) (identify : AreIdentifiers names) (at : Position) where
    typed_valued : (d : ℕ) (x : JDeclarator) (o : Option JValue) → value_stands d o → (s : TStatement) → valued classes parameter names at x o ≡ Judged.Typed s → Owes parameter locals s
    typed_valued d x None stands s is = absurd (cc is)
    typed_valued d x (Some value) stands s is =
        let parts = if_typed (may_declare classes parameter names x.name) (expression names value.tree >>= (λ e. Judged.Typed (declares at x.name x.at e))) x.at s is in
        let first = bind_typed (expression names value.tree) (λ e. Judged.Typed (declares at x.name x.at e)) s parts.1 in
        let good = typed_expression locals names same identify d 0 value.tree stands first.0 first.1 in
        let last = both (is_variable x.name && not (contains_name classes x.name) && not (bytes_eq x.name parameter)) (not (contains_name names x.name)) parts.0 in
        let before = both (is_variable x.name && not (contains_name classes x.name)) (not (bytes_eq x.name parameter)) last.0 in
        let start = both (is_variable x.name) (not (contains_name classes x.name)) before.0 in
        inl (record {
          at = at;
          name = x.name;
          name_at = x.at;
          value = first.0;
          is = typed_is _ _ first.2;
          free = variable x.name start.0;
          differs = same_bytes parameter x.name ∙ not_true (bytes_eq x.name parameter) before.1;
          new = same x.name ∙ not_true (contains_name names x.name) last.1;
          known = good.known;
          named = good.named;
          taken = good.taken;
        })

    typed_declarator : (d : ℕ) (x : JDeclarator) → DeclaratorStands d x → (s : TStatement) → valued classes parameter names at x x.value ≡ Judged.Typed s → Owes parameter locals s
    unfolding DeclaratorStands
    typed_declarator zero x stands s is = absurd stands
    typed_declarator (suc d) x stands s is = typed_valued d x x.value stands s is

    typed_declared : (d : ℕ) (o : Option Position) (b : Bool) (xs : List JDeclarator) → AllByRecursion (DeclaratorStands d) xs → (s : TStatement) → declared classes parameter names at o b xs ≡ Judged.Typed s → Owes parameter locals s
    typed_declared d None true (x ∷ []) all s is = typed_declarator d x all.0 s is
    typed_declared d None true [] all s is = absurd (cc is)
    typed_declared d None true (x ∷ y ∷ xs) all s is = absurd (cc is)
    typed_declared d None false xs all s is = absurd (cc is)
    typed_declared d (Some final_at) b xs all s is = absurd (cc is)

    typed_printed : (d : ℕ) (name_at : Position) (xs : List JExpr) → AllByRecursion (Stands d any_level) xs → (s : TStatement) → printed names at name_at xs ≡ Judged.Typed s → Owes parameter locals s
    typed_printed d name_at [] all s is = absurd (cc is)
    typed_printed d name_at (x ∷ y ∷ xs) all s is = absurd (cc is)
    typed_printed d name_at (x ∷ []) all s is =
        let first = bind_typed (expression names x) (λ e. Judged.Typed (prints at name_at e)) s is in
        let good = typed_expression locals names same identify d any_level x all.0 first.0 first.1 in
        inr (record { at = at; name_at = name_at; value = first.0; is = typed_is _ _ first.2; known = good.known; named = good.named; taken = good.taken })

    typed_called : (d : ℕ) (x : JExpr-F JExpr) → stands_by d (TypeStands d) (TypedStands d) (Stands d) x → (s : TStatement) → called names at x ≡ Judged.Typed s → Owes parameter locals s
    typed_called d (JExpr-F.Method left dot n call_at lp args commas rp) h s is =
        let parts = if_typed (is_out left && bytes_eq n (codes "println")) (printed names at call_at args) at s is in typed_printed d call_at args h.2 s parts.1
    typed_called d (JExpr-F.Name n name_at) h s is = absurd (cc is)
    typed_called d (JExpr-F.Literal x literal_at) h s is = absurd (cc is)
    typed_called d (JExpr-F.Paren lp x rp) h s is = absurd (cc is)
    typed_called d (JExpr-F.Binary x op op_at y) h s is = absurd (cc is)
    typed_called d (JExpr-F.This this_at) h s is = absurd (cc is)
    typed_called d (JExpr-F.Call n call_at lp args commas rp) h s is = absurd (cc is)
    typed_called d (JExpr-F.SuperCall above dot n call_at lp args commas rp) h s is = absurd (cc is)
    typed_called d (JExpr-F.Field x dot n field_at) h s is = absurd (cc is)
    typed_called d (JExpr-F.Element x lp index rp) h s is = absurd (cc is)
    typed_called d (JExpr-F.Postfix x op op_at) h s is = absurd (cc is)
    typed_called d (JExpr-F.Prefix op op_at x) h s is = absurd (cc is)
    typed_called d (JExpr-F.MinusLeast minus x literal_at) h s is = absurd (cc is)
    typed_called d (JExpr-F.Cast lp to rp x) h s is = absurd (cc is)
    typed_called d (JExpr-F.Instanceof x test_at to) h s is = absurd (cc is)
    typed_called d (JExpr-F.Conditional x question y colon z) h s is = absurd (cc is)
    typed_called d (JExpr-F.Assign x op op_at y) h s is = absurd (cc is)
    typed_called d (JExpr-F.Lambda params arrow body) h s is = absurd (cc is)
    typed_called d (JExpr-F.LambdaBlock params arrow body) h s is = absurd (cc is)
    typed_called d (JExpr-F.New new_at made lp args commas rp body) h s is = absurd (cc is)
    typed_called d (JExpr-F.NewArray new_at of lb size rb more) h s is = absurd (cc is)
    typed_called d (JExpr-F.NewFilled new_at of brackets lc inits commas more rc) h s is = absurd (cc is)
    typed_called d (JExpr-F.Braces lc inits commas more rc) h s is = absurd (cc is)

    typed_call : (d : ℕ) (x : JExpr) → Stands d any_level x → (s : TStatement) → called names at (out-JExpr x) ≡ Judged.Typed s → Owes parameter locals s
    unfolding Stands
    typed_call zero x stands s is = absurd stands
    typed_call (suc d) x stands s is = typed_called d (out-JExpr x) stands.1 s is

    typed_simple : (d : ℕ) (x : JSimple) → SimpleStands d x → (s : TStatement) → simple_of classes parameter names at x ≡ Judged.Typed s → Owes parameter locals s
    typed_simple d (simple.Declaration x) stands s is = typed_declared d x.is_final (is_int x.kind) x.names stands.all s is
    typed_simple d (simple.Expression x) stands s is = typed_call d x stands.stands s is
    typed_simple d simple.Empty stands s is = absurd (cc is)
    typed_simple d (simple.Break break_at x) stands s is = absurd (cc is)
    typed_simple d (simple.Continue continue_at x) stands s is = absurd (cc is)
    typed_simple d (simple.Return return_at x) stands s is = absurd (cc is)
    typed_simple d (simple.Throw throw_at x) stands s is = absurd (cc is)
    typed_simple d (simple.ThisCall call_at lp args commas rp) stands s is = absurd (cc is)
    typed_simple d (simple.SuperCall call_at lp args commas rp) stands s is = absurd (cc is)

    typed_form : (P : ℕ → Node → Type 0) (d : ℕ) (x : JStatement-F JBody JMember JStatement JCase JCaseGroup JCatch) → statement_stands P d Role.Inner x → (s : TStatement)
        → statement_of classes parameter names at x ≡ Judged.Typed s → Owes parameter locals s
    typed_form P d (JStatement-F.Simple x bodies end) stands s is = typed_simple d x stands.1 s is
    typed_form P d (JStatement-F.Block left xs right) stands s is = absurd (cc is)
    typed_form P d (JStatement-F.Labeled n label_at colon body) stands s is = absurd (cc is)
    typed_form P d (JStatement-F.If if_at lp test bodies rp then_) stands s is = absurd (cc is)
    typed_form P d (JStatement-F.IfElse if_at lp test bodies rp then_ else_at else_) stands s is = absurd (cc is)
    typed_form P d (JStatement-F.While while_at lp test bodies rp body) stands s is = absurd (cc is)
    typed_form P d (JStatement-F.Do do_at body while_at lp test bodies rp end) stands s is = absurd (cc is)
    typed_form P d (JStatement-F.For for_at lp x bodies rp body) stands s is = absurd (cc is)
    typed_form P d (JStatement-F.Switch switch_at lp subject bodies rp left groups right) stands s is = absurd (cc is)
    typed_form P d (JStatement-F.Synchronized lock_at lp lock bodies rp left xs right) stands s is = absurd (cc is)
    typed_form P d (JStatement-F.Try try_at left xs right catches) stands s is = absurd (cc is)
    typed_form P d (JStatement-F.TryFinally try_at left xs right catches finally_at last_left lasts last_right) stands s is = absurd (cc is)

  typed_statement : (locals names : List (List ℕ)) → SameLocals locals names → AreIdentifiers names → (n d : ℕ) (x : JStatement) → NodeStands n d (Node.Statement Role.Inner x) → (s : TStatement)
      → statement classes parameter names x ≡ Judged.Typed s → Owes parameter locals s
  unfolding NodeStands statement
  typed_statement locals names same identify zero d x stands s is = absurd stands
  typed_statement locals names same identify (suc n) zero x stands s is = absurd stands
  typed_statement locals names same identify (suc n) (suc d) x stands s is =
      typed_form locals names same identify (statement_at x) (NodeStands n) d (out-JStatement x) stands s is

  typed_more : (locals names : List (List ℕ)) (s : TStatement) (more : List Statement) → SameLocals locals names → AreIdentifiers names → Owes parameter locals s
      → ((after : List (List ℕ)) → SameLocals after (names_after names s) → AreIdentifiers (names_after names s) → Body parameter after more) → Body parameter locals (m.statement s ∷ more)
  typed_more locals names s more same identify (inl owes) rest =
      let absent : contains_name names owes.name ≡ false = sym (same owes.name) ∙ owes.new in
      let next : names ++ owes.name ∷ [] ≡ names_after names s = after_new names owes.at owes.name owes.name_at owes.value absent ∙ ap (names_after names) owes.is in
      let b = rest (owes.name ∷ locals) (subst (SameLocals (owes.name ∷ locals)) next (one_more locals names owes.name same)) (subst AreIdentifiers next (identifier_more names owes.name identify owes.free.identifies)) in
      let seen : Declares owes.name owes.value ≡ m.statement s = sym (declares_is owes.at owes.name owes.name_at owes.value) ∙ ap m.statement owes.is in
      subst (λ (x : Statement). Body parameter locals (x ∷ more)) seen (record {
        typed = (owes.differs, owes.new, owes.known, b.typed);
        named = (owes.free.named, owes.named, b.named);
        taken = rw (owes.taken, b.taken) refl;
      })
  typed_more locals names s more same identify (inr owes) rest =
      let next : names ≡ names_after names s = sym (after_prints names owes.at owes.name_at owes.value) ∙ ap (names_after names) owes.is in
      let b = rest locals (subst (SameLocals locals) next same) (subst AreIdentifiers next identify) in
      let seen : Prints owes.value ≡ m.statement s = sym (prints_is owes.at owes.name_at owes.value) ∙ ap m.statement owes.is in
      subst (λ (x : Statement). Body parameter locals (x ∷ more)) seen (record { typed = (owes.known, b.typed); named = (owes.named, b.named); taken = rw (owes.taken, b.taken) refl })

  typed_body : (n d : ℕ) (locals names : List (List ℕ)) → SameLocals locals names → AreIdentifiers names → (xs : List JStatement) → all_stand (NodeStands n) d Role.Inner xs → (body : List TStatement)
      → statements classes parameter names xs ≡ Judged.Typed body → Body parameter locals (map m.statement body)
  typed_body n d locals names same identify [] stands body is =
      subst (λ (body : List TStatement). Body parameter locals (map m.statement body)) (typed_is _ _ is) (record { typed = tt; named = tt; taken = refl })
  typed_body n d locals names same identify (x ∷ xs) stands body is =
      let first = bind_typed (statement classes parameter names x) (λ s. statements classes parameter (names_after names s) xs >>= λ more. Judged.Typed (s ∷ more)) body is in
      let second = bind_typed (statements classes parameter (names_after names first.0) xs) (λ more. Judged.Typed (first.0 ∷ more)) body first.2 in
      subst (λ (body : List TStatement). Body parameter locals (map m.statement body)) (typed_is _ _ second.2)
      (typed_more locals names first.0 (map m.statement second.0) same identify (typed_statement locals names same identify n d x stands.0 first.0 first.1)
      (λ after same identify. typed_body n d after (names_after names first.0) same identify xs stands.1 second.0 second.1))

  body_typed : (n d : ℕ) (xs : List JStatement) → block_stands (NodeStands n) d xs → (body : List TStatement) → statements classes parameter [] xs ≡ Judged.Typed body → Body parameter [] (map m.statement body)
  body_typed n zero xs stands body is = absurd stands
  body_typed n (suc d) xs stands body is = typed_body n d [] [] (λ name. refl) (λ name among. cc) xs stands body is

-- ---- members

record MainGood (method : TMethod) : Type 0 where
  main : MainMethod
  is : m.main_of_method method ≡ Some main
  free : Free main.parameter
  body : Body main.parameter [] main.body

-- what methods, one at most, owe
record Mains (ms : List TMethod) : Type 0 where
  typed : MainIsTyped (m.main_in ms)
  named : MainIsNamed (m.main_in ms)
  taken : m.are_taken_methods ms ≡ true

mains_of : (method : TMethod) → MainGood method → Mains (method ∷ [])
mains_of method good = record {
  typed = subst MainIsTyped (sym good.is) good.body.typed;
  named = subst MainIsNamed (sym good.is) (good.free.named, good.body.named);
  taken = ap m.is_taken_main good.is ∙ good.body.taken;
}

module _ (classes : List (List ℕ)) where
  typed_main : (n d : ℕ) (first at : Position) (x : JTypedParam) (xs : List JStatement) (closes : Position) → block_stands (NodeStands n) d xs → (main : TMethod) → u.main_of classes first at x xs closes ≡ Judged.Typed main → MainGood main
  typed_main n d first at x xs closes stands main is =
      let parts = if_typed (is_variable x.name && not (contains_name classes x.name)) (statements classes x.name [] xs >>= λ body. Judged.Typed (u.main_method first at x body closes)) x.at main is in
      let found = bind_typed (statements classes x.name [] xs) (λ body. Judged.Typed (u.main_method first at x body closes)) main parts.1 in
      subst MainGood (typed_is _ _ found.2) (record {
        main = record { parameter = x.name; body = map m.statement found.0 };
        is = main_is first at x found.0 closes;
        free = variable x.name (both (is_variable x.name) (not (contains_name classes x.name)) parts.0).0;
        body = body_typed classes x.name n d xs stands found.0 found.1;
      })

  typed_bodied : (n d : ℕ) (first at : Position) (o : Option JTypedParam) (xs : List JStatement) (closes : Position) → block_stands (NodeStands n) d xs → (main : TMethod) → u.bodied classes first at o xs closes ≡ Judged.Typed main → MainGood main
  typed_bodied n d first at None xs closes stands main is = absurd (cc is)
  typed_bodied n d first at (Some x) xs closes stands main is = typed_main n d first at x xs closes stands main is

  typed_head : (n d : ℕ) (at : Position) (h : JMemberHead) (xs : List JStatement) (closes : Position) → member_block (NodeStands n) d h xs → (main : TMethod) → u.bodied classes at (u.name_place h) (u.main_parameter h) xs closes ≡ Judged.Typed main → MainGood main
  typed_head n d at (head.Method mods params answer name name_at formals throws) xs closes stands main is =
      typed_bodied n d at name_at (u.main_parameter (head.Method mods params answer name name_at formals throws)) xs closes stands main is
  typed_head n d at head.Empty xs closes stands main is = absurd (cc is)
  typed_head n d at (head.Field mods x) xs closes stands main is = absurd (cc is)
  typed_head n d at (head.Constructor mods name name_at formals throws) xs closes stands main is = absurd (cc is)
  typed_head n d at (head.Initializer static) xs closes stands main is = absurd (cc is)

  member_form : (n : ℕ) (owner : Owner) (at : Position) (x : JMember-F JBody JMember JStatement JCase JCaseGroup JCatch) → top_stands (NodeStands steps) (TopStands n) owner x → (main : TMethod)
      → u.member_of classes at x ≡ Judged.Typed main → MainGood main
  member_form n owner at (JMember-F.Bodied h left xs right) stands main is = typed_head steps 200 at h xs right stands.2 main is
  member_form n owner at (JMember-F.Declared h bodies end) stands main is = absurd (cc is)
  member_form n owner at (JMember-F.Type h left constants bodies members right) stands main is = absurd (cc is)

  typed_member : (n : ℕ) (owner : Owner) (x : JMember) → TopStands n owner x → (main : TMethod) → u.member classes x ≡ Judged.Typed main → MainGood main
  unfolding TopStands u.member
  typed_member zero owner x stands main is = absurd stands
  typed_member (suc n) owner x stands main is = member_form n owner (member_at x) (out-JMember x) stands main is

  typed_members : (n : ℕ) (owner : Owner) (xs : List JMember) → AllByRecursion (TopStands n owner) xs → (ms : List TMethod) → u.members classes xs ≡ Judged.Typed ms → Mains ms
  typed_members n owner [] all ms is = subst Mains (typed_is _ _ is) (record { typed = tt; named = tt; taken = refl })
  typed_members n owner (x ∷ []) all ms is =
      let first = bind_typed (u.member classes x) (λ main. Judged.Typed (main ∷ [])) ms is in
      subst Mains (typed_is _ _ first.2) (mains_of first.0 (typed_member n owner x all.0 first.0 first.1))
  typed_members n owner (x ∷ y ∷ xs) all ms is =
      let first = bind_typed (u.member classes x) (λ main. Judged.Open (member_at y)) ms is in absurd (cc (first.2))

-- ---- classes

-- what classes, one at most, owe
record Classes (cs : List TClass) : Type 0 where
  typed : ClassIsTyped (m.class_among cs)
  named : ClassIsNamed (m.class_among cs)
  taken : m.are_taken_classes cs ≡ true

module _ (classes earlier : List (List ℕ)) (path : List ℕ) where
  typed_named : (n : ℕ) (owner : Owner) (place : Position) (name : List ℕ) (at : Position) (xs : List JMember) → AllByRecursion (TopStands n owner) xs → (c : TClass) → u.named classes earlier path place name at xs ≡ Judged.Typed c
      → Classes (c ∷ [])
  typed_named n owner place name at xs all c is =
      let parts = if_typed (u.may_name earlier path name) (u.class_of classes place name at xs) at c is in
      let first = bind_typed (u.members classes xs) (λ methods. Judged.Typed (u.class_with place name at methods)) c parts.1 in
      let mains = typed_members classes n owner xs all first.0 first.1 in
      let new = both (is_free name && not (contains_name earlier name)) (u.is_file_of path name) parts.0 in
      let f = free name (both (is_free name) (not (contains_name earlier name)) new.0).0 in
      subst (λ (c : TClass). Classes (c ∷ [])) (typed_is _ _ first.2) (record { typed = mains.typed; named = (f.named, mains.named); taken = rw mains.taken refl })

  typed_headed : (n : ℕ) (owner : Owner) (at : Position) (o : Option u.Named) (xs : List JMember) → AllByRecursion (TopStands n owner) xs → (c : TClass) → u.headed classes earlier path at o xs ≡ Judged.Typed c
      → Classes (c ∷ [])
  typed_headed n owner at None xs all c is = absurd (cc is)
  typed_headed n owner at (Some x) xs all c is = typed_named n owner at x.0 x.1 xs all c is

  typed_top_form : (n : ℕ) (at : Position) (x : JMember-F JBody JMember JStatement JCase JCaseGroup JCatch) → file_stands (NodeStands steps) (TopStands n) x → (c : TClass) → u.top_of classes earlier path at x ≡ Judged.Typed c
      → Classes (c ∷ [])
  typed_top_form n at (JMember-F.Type h left constants bodies xs right) stands c is = typed_headed n (owner_of h) at (u.class_named h) xs stands.4 c is
  typed_top_form n at (JMember-F.Declared h bodies end) stands c is = absurd (cc is)
  typed_top_form n at (JMember-F.Bodied h left xs right) stands c is = absurd (cc is)

  typed_top : (n : ℕ) (x : JMember) → FileStands n x → (c : TClass) → u.top classes earlier path x ≡ Judged.Typed c → Classes (c ∷ [])
  unfolding u.top
  typed_top n x stands c is = typed_top_form n (member_at x) (out-JMember x) stands c is

  typed_types : (n : ℕ) (xs : List JMember) → AllByRecursion (FileStands n) xs → (cs : List TClass) → u.types classes earlier path xs ≡ Judged.Typed cs → Classes cs
  typed_types n [] all cs is = subst Classes (typed_is _ _ is) (record { typed = tt; named = tt; taken = refl })
  typed_types n (x ∷ []) all cs is =
      let first = bind_typed (u.top classes earlier path x) (λ class. Judged.Typed (class ∷ [])) cs is in
      subst Classes (typed_is _ _ first.2) (typed_top n x all.0 first.0 first.1)
  typed_types n (x ∷ y ∷ xs) all cs is =
      let first = bind_typed (u.top classes earlier path x) (λ class. Judged.Open (member_at y)) cs is in absurd (cc (first.2))

-- ---- packages

record Parts (names : List (List ℕ)) : Type 0 where
  identify : AreNames names

typed_part : (name : List ℕ) (at : Position) (n : List ℕ) → u.part_of name at ≡ Judged.Typed n → Free n
typed_part name at n is = let parts = if_typed (is_identifier name) (Judged.Typed name) at n is in subst Free (typed_is _ _ parts.1) (identified name parts.0)

part_more : (name : List ℕ) (names : List (List ℕ)) → Free name → Parts names → Parts (name ∷ names)
part_more name names f more = record { identify = (f.named, more.identify) }

typed_parts : (xs : List JDotted) (names : List (List ℕ)) → u.parts_of xs ≡ Judged.Typed names → Parts names
typed_parts [] names is = subst Parts (typed_is _ _ is) (record { identify = tt })
typed_parts (x ∷ xs) names is =
    let first = bind_typed (u.part_of x.name x.at) (λ name. u.parts_of xs >>= λ names. Judged.Typed (name ∷ names)) names is in
    let second = bind_typed (u.parts_of xs) (λ names. Judged.Typed (first.0 ∷ names)) names first.2 in
    subst Parts (typed_is _ _ second.2) (part_more first.0 second.0 (typed_part x.name x.at first.0 first.1) (typed_parts xs second.0 second.1))

typed_package : (o : Option JPackage) (names : List (List ℕ)) → u.package_of o ≡ Judged.Typed names → Parts names
typed_package None names is = subst Parts (typed_is _ _ is) (record { identify = tt })
typed_package (Some x) names is =
    let first = bind_typed (u.part_of x.name.name x.name.at) (λ name. u.parts_of x.name.rest >>= λ names. Judged.Typed (name ∷ names)) names is in
    let second = bind_typed (u.parts_of x.name.rest) (λ names. Judged.Typed (first.0 ∷ names)) names first.2 in
    subst Parts (typed_is _ _ second.2) (part_more first.0 second.0 (typed_part x.name.name x.name.at first.0 first.1) (typed_parts x.name.rest second.0 second.1))

-- ---- units

pub record FileGood (unit : TUnit) : Type 0 where
  pub typed : IsTypedFile unit
  pub named : JNamed unit
  pub taken : m.is_taken_unit unit ≡ true

file_good : (path : List ℕ) (names : List (List ℕ)) (cs : List TClass) → Parts names → Classes cs → FileGood (u.unit_of path names cs)
unfolding m.is_taken_unit
file_good path names cs parts class = record {
  typed = class.typed;
  named = record { parts = parts.identify; class = class.named };
  taken = class.taken;
}

not_before : (at : Position) (j : Judged TUnit) (f : TUnit) → u.before at j ≡ Judged.Typed f → ⊥
not_before at (Judged.Typed x) f is = cc is
not_before at (Judged.Open other) f is = by_test (nat_lt at.offset other.offset) is
  where
    by_test : (b : Bool) → cond b (Judged.Open at) (Judged.Open other) ≡ Judged.Typed f → ⊥
    by_test true e = cc e
    by_test false e = cc e

no_comment : (xs : List Comment) (j : Judged TUnit) (f : TUnit) → u.commented xs j ≡ Judged.Typed f → j ≡ Judged.Typed f
no_comment [] j f is = is
no_comment (x ∷ xs) j f is = absurd (not_before x.position j f is)

pub taken : (classes earlier : List (List ℕ)) (x : JUnit) (f : TUnit) (text : Tokens) → u.unit classes earlier x ≡ Judged.Typed f → UnitSpells x text → FileGood f
unfolding u.unit
taken classes earlier x f text is spells =
    let declared = no_comment x.comments (u.declared classes earlier x) f is in
    let first = bind_typed (u.package_of x.package) (λ parts. u.imports_of x.imports >>= λ none. u.types classes earlier x.path x.types >>= λ found. Judged.Typed (u.unit_of x.path parts found)) f declared in
    let second = bind_typed (u.imports_of x.imports) (λ none. u.types classes earlier x.path x.types >>= λ found. Judged.Typed (u.unit_of x.path first.0 found)) f first.2 in
    let third = bind_typed (u.types classes earlier x.path x.types) (λ found. Judged.Typed (u.unit_of x.path first.0 found)) f second.2 in
    subst (λ (f : TUnit). FileGood f) (typed_is _ _ third.2)
    (file_good x.path first.0 third.0 (typed_package x.package first.0 first.1) (typed_types classes earlier x.path (length text) x.types spells.stands third.0 third.1))

-- ---- the name of a class

-- the name that a class, where there is one, may have
abbrev MayBeNamed : List (List ℕ) → List ℕ → Option MainClass → Type 0
MayBeNamed earlier path None = Unit {0}
MayBeNamed earlier path (Some class) = u.may_name earlier path class.name ≡ true

module _ (classes earlier : List (List ℕ)) (path : List ℕ) where
  may_named : (place : Position) (name : List ℕ) (at : Position) (xs : List JMember) (c : TClass) → u.named classes earlier path place name at xs ≡ Judged.Typed c → u.may_name earlier path c.name ≡ true
  may_named place name at xs c is =
      let parts = if_typed (u.may_name earlier path name) (u.class_of classes place name at xs) at c is in
      let first = bind_typed (u.members classes xs) (λ methods. Judged.Typed (u.class_with place name at methods)) c parts.1 in
      subst (λ (c : TClass). u.may_name earlier path c.name ≡ true) (typed_is _ _ first.2) parts.0

  may_headed : (at : Position) (o : Option u.Named) (xs : List JMember) (c : TClass) → u.headed classes earlier path at o xs ≡ Judged.Typed c → u.may_name earlier path c.name ≡ true
  may_headed at None xs c is = absurd (cc is)
  may_headed at (Some x) xs c is = may_named at x.0 x.1 xs c is

  may_top_form : (at : Position) (x : JMember-F JBody JMember JStatement JCase JCaseGroup JCatch) (c : TClass) → u.top_of classes earlier path at x ≡ Judged.Typed c → u.may_name earlier path c.name ≡ true
  may_top_form at (JMember-F.Type h left constants bodies xs right) c is = may_headed at (u.class_named h) xs c is
  may_top_form at (JMember-F.Declared h bodies end) c is = absurd (cc is)
  may_top_form at (JMember-F.Bodied h left xs right) c is = absurd (cc is)

  may_top : (x : JMember) (c : TClass) → u.top classes earlier path x ≡ Judged.Typed c → u.may_name earlier path c.name ≡ true
  unfolding u.top
  may_top x c is = may_top_form (member_at x) (out-JMember x) c is

  may_types : (xs : List JMember) (cs : List TClass) → u.types classes earlier path xs ≡ Judged.Typed cs → MayBeNamed earlier path (m.class_among cs)
  may_types [] cs is = subst (λ (cs : List TClass). MayBeNamed earlier path (m.class_among cs)) (typed_is _ _ is) tt
  may_types (x ∷ []) cs is =
      let first = bind_typed (u.top classes earlier path x) (λ class. Judged.Typed (class ∷ [])) cs is in
      subst (λ (cs : List TClass). MayBeNamed earlier path (m.class_among cs)) (typed_is _ _ first.2) (may_top x first.0 first.1)
  may_types (x ∷ y ∷ xs) cs is = let first = bind_typed (u.top classes earlier path x) (λ class. Judged.Open (member_at y)) cs is in absurd (cc (first.2))

pub may_be_named : (classes earlier : List (List ℕ)) (x : JUnit) (f : TUnit) (class : MainClass) → u.unit classes earlier x ≡ Judged.Typed f → m.class_in f ≡ Some class → u.may_name earlier x.path class.name ≡ true
unfolding u.unit
may_be_named classes earlier x f class is there =
    let declared = no_comment x.comments (u.declared classes earlier x) f is in
    let first = bind_typed (u.package_of x.package) (λ parts. u.imports_of x.imports >>= λ none. u.types classes earlier x.path x.types >>= λ found. Judged.Typed (u.unit_of x.path parts found)) f declared in
    let second = bind_typed (u.imports_of x.imports) (λ none. u.types classes earlier x.path x.types >>= λ found. Judged.Typed (u.unit_of x.path first.0 found)) f first.2 in
    let third = bind_typed (u.types classes earlier x.path x.types) (λ found. Judged.Typed (u.unit_of x.path first.0 found)) f second.2 in
    subst (MayBeNamed earlier x.path) there (subst (λ (f : TUnit). MayBeNamed earlier x.path (m.class_in f)) (typed_is _ _ third.2) (may_types classes earlier x.path x.types third.0 third.1))
