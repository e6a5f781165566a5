-- Every node of a class and of a unit is seen, and nothing else.
use Rattle.std.proofs.Common.{ℕ, List, [], ◌∷◌, ◌++◌, Option, Some, None}
use Rattle.std.specs.List.{AllByRecursion, flat_map}
use Rattle.java_typed.specs.declared.types.TWritten.{TWritten}
use Rattle.java_typed.specs.declared.exprs.TExpr.{TExpr}
use Rattle.java_typed.specs.declared.statements.TBody.{TBody}
use Rattle.java_typed.specs.declared.statements.TStatement.{TStatement}
use Rattle.java_typed.specs.declared.units.TTypeParam.{TTypeParam}
use Rattle.java_typed.specs.declared.units.TParam.{TParam}
use Rattle.java_typed.specs.declared.units.TField.{TField}
use Rattle.java_typed.specs.declared.units.TBlock.{TBlock}
use Rattle.java_typed.specs.declared.units.TMethod.{TMethod}
use Rattle.java_typed.specs.declared.units.TFirstCall.{TFirstCall}
use Rattle.java_typed.specs.declared.units.TFirstCall.TheVariants as first
use Rattle.java_typed.specs.declared.units.TConstructor.{TConstructor}
use Rattle.java_typed.specs.declared.units.TInitializer.{TInitializer}
use Rattle.java_typed.specs.declared.units.TInitializer.TheVariants as part
use Rattle.java_typed.specs.declared.units.TClass.{TClass}
use Rattle.java_typed.specs.declared.units.TUnit.{TUnit}
use Rattle.java_walks.specs.Texts as t
use Rattle.java_walks.specs.Every as v
use Rattle.java_walks.specs.Every.{nothing_within, of_unit}
use Rattle.java_walks.proofs.Nodes.{all_both, all_left, all_right, from_flat, to_flat}
use Rattle.java_walks.proofs.Statements.{body_told, each_body, each_statement, statement_told}

-- parts of a list, each by a step
module _ {A T : Type 0} (P : A → Type 0) (of : T → List A) (Every : T → Type 0) where
  from_each : ((x : T) → AllByRecursion P (of x) → Every x) → (xs : List T) → AllByRecursion P (flat_map of xs) → AllByRecursion Every xs
  from_each step [] h = tt
  from_each step (x ∷ xs) h = (step x (all_left P (of x) (flat_map of xs) h), from_each step xs (all_right P (of x) (flat_map of xs) h))

  to_each : ((x : T) → Every x → AllByRecursion P (of x)) → (xs : List T) → AllByRecursion Every xs → AllByRecursion P (flat_map of xs)
  to_each step [] h = tt
  to_each step (x ∷ xs) h = all_both P (of x) (flat_map of xs) (step x h.0) (to_each step xs h.1)

module _ {A : Type 0} (of_value : TExpr → List A) (of_type : TWritten → List A) (of_inner : ℕ → List A) (P : A → Type 0) where
  abbrev st : TStatement → List A
  st = t.of_statement of_value of_type of_inner

  abbrev bd : TBody → List A
  bd = t.of_body of_value of_type of_inner

  abbrev ESt : TStatement → Type 0
  ESt = v.EveryStatement of_value of_type of_inner P

  abbrev EBd : TBody → Type 0
  EBd = v.EveryBody of_value of_type of_inner P

  abbrev bound : Option TWritten → List A
  bound = t.of_bound of_value of_type of_inner

  abbrev tp : TTypeParam → List A
  tp = t.of_type_param of_value of_type of_inner

  abbrev pm : TParam → List A
  pm = t.of_param of_value of_type of_inner

  abbrev ETp : TTypeParam → Type 0
  ETp = v.EveryTypeParam of_value of_type of_inner P

  abbrev EPm : TParam → Type 0
  EPm = v.EveryParam of_value of_type of_inner P

  from_statements : (xs : List TStatement) → AllByRecursion P (flat_map st xs) → AllByRecursion ESt xs
  from_statements = from_each P st ESt (each_statement of_value of_type of_inner P)

  to_statements : (xs : List TStatement) → AllByRecursion ESt xs → AllByRecursion P (flat_map st xs)
  to_statements = to_each P st ESt (statement_told of_value of_type of_inner P)

  from_bodies : (xs : List TBody) → AllByRecursion P (flat_map bd xs) → AllByRecursion EBd xs
  from_bodies = from_each P bd EBd (each_body of_value of_type of_inner P)

  to_bodies : (xs : List TBody) → AllByRecursion EBd xs → AllByRecursion P (flat_map bd xs)
  to_bodies = to_each P bd EBd (body_told of_value of_type of_inner P)

  from_bound : (o : Option TWritten) → AllByRecursion P (bound o) → v.OfBound of_value of_type of_inner P o
  from_bound None h = tt
  from_bound (Some w) h = h

  to_bound : (o : Option TWritten) → v.OfBound of_value of_type of_inner P o → AllByRecursion P (bound o)
  to_bound None h = tt
  to_bound (Some w) h = h

  from_type_params : (xs : List TTypeParam) → AllByRecursion P (flat_map tp xs) → AllByRecursion ETp xs
  from_type_params = from_each P tp ETp (λ p h. from_bound p.bound h)

  to_type_params : (xs : List TTypeParam) → AllByRecursion ETp xs → AllByRecursion P (flat_map tp xs)
  to_type_params = to_each P tp ETp (λ p h. to_bound p.bound h)

  from_block : (o : Option TBlock) → AllByRecursion P (t.of_block of_value of_type of_inner o) → v.EveryBlock of_value of_type of_inner P o
  from_block None h = tt
  from_block (Some b) h = from_statements b.statements h

  to_block : (o : Option TBlock) → v.EveryBlock of_value of_type of_inner P o → AllByRecursion P (t.of_block of_value of_type of_inner o)
  to_block None h = tt
  to_block (Some b) h = to_statements b.statements h

  from_method : (m : TMethod) → AllByRecursion P (t.of_method of_value of_type of_inner m) → v.EveryMethod of_value of_type of_inner P m
  from_method m h =
      let h1 : AllByRecursion P (bound m.result ++ (flat_map pm m.params ++ t.of_block of_value of_type of_inner m.block)) = all_right P (flat_map tp m.type_params) _ h in
      let h2 : AllByRecursion P (flat_map pm m.params ++ t.of_block of_value of_type of_inner m.block) = all_right P (bound m.result) _ h1 in
      (from_type_params m.type_params (all_left P (flat_map tp m.type_params) _ h), (from_bound m.result (all_left P (bound m.result) _ h1), (from_flat P pm m.params (all_left P (flat_map pm m.params) _ h2), from_block m.block (all_right P (flat_map pm m.params) _ h2))))

  to_method : (m : TMethod) → v.EveryMethod of_value of_type of_inner P m → AllByRecursion P (t.of_method of_value of_type of_inner m)
  to_method m h =
      all_both P (flat_map tp m.type_params) (bound m.result ++ (flat_map pm m.params ++ t.of_block of_value of_type of_inner m.block)) (to_type_params m.type_params h.0)
      (all_both P (bound m.result) (flat_map pm m.params ++ t.of_block of_value of_type of_inner m.block) (to_bound m.result h.1.0)
      (all_both P (flat_map pm m.params) (t.of_block of_value of_type of_inner m.block) (to_flat P pm m.params h.1.1.0) (to_block m.block h.1.1.1)))

  from_called : (xs : List TExpr) (bs : List TBody) → AllByRecursion P (flat_map of_value xs ++ flat_map bd bs) → AllByRecursion (v.OfValue of_value of_type of_inner P) xs × AllByRecursion EBd bs
  from_called xs bs h = (from_flat P of_value xs (all_left P (flat_map of_value xs) _ h), from_bodies bs (all_right P (flat_map of_value xs) _ h))

  to_called : (xs : List TExpr) (bs : List TBody) → AllByRecursion (v.OfValue of_value of_type of_inner P) xs × AllByRecursion EBd bs → AllByRecursion P (flat_map of_value xs ++ flat_map bd bs)
  to_called xs bs h = all_both P (flat_map of_value xs) (flat_map bd bs) (to_flat P of_value xs h.0) (to_bodies bs h.1)

  from_call : (k : TFirstCall) → AllByRecursion P (t.of_call of_value of_type of_inner k) → v.EveryCall of_value of_type of_inner P k
  from_call first.Nothing h = tt
  from_call (first.This at m xs bs) h = from_called xs bs h
  from_call (first.Super at w m xs bs) h = from_called xs bs h

  to_call : (k : TFirstCall) → v.EveryCall of_value of_type of_inner P k → AllByRecursion P (t.of_call of_value of_type of_inner k)
  to_call first.Nothing h = tt
  to_call (first.This at m xs bs) h = to_called xs bs h
  to_call (first.Super at w m xs bs) h = to_called xs bs h

  from_constructor : (k : TConstructor) → AllByRecursion P (t.of_constructor of_value of_type of_inner k) → v.EveryConstructor of_value of_type of_inner P k
  from_constructor k h =
      let h1 : AllByRecursion P (t.of_call of_value of_type of_inner k.call ++ flat_map st k.block.statements) = all_right P (flat_map pm k.params) _ h in
      (from_flat P pm k.params (all_left P (flat_map pm k.params) _ h), (from_call k.call (all_left P (t.of_call of_value of_type of_inner k.call) _ h1), from_statements k.block.statements (all_right P (t.of_call of_value of_type of_inner k.call) _ h1)))

  to_constructor : (k : TConstructor) → v.EveryConstructor of_value of_type of_inner P k → AllByRecursion P (t.of_constructor of_value of_type of_inner k)
  to_constructor k h =
      all_both P (flat_map pm k.params) (t.of_call of_value of_type of_inner k.call ++ flat_map st k.block.statements) (to_flat P pm k.params h.0)
      (all_both P (t.of_call of_value of_type of_inner k.call) (flat_map st k.block.statements) (to_call k.call h.1.0) (to_statements k.block.statements h.1.1))

  from_initializer : (i : TInitializer) → AllByRecursion P (t.of_initializer of_value of_type of_inner i) → v.EveryInitializer of_value of_type of_inner P i
  from_initializer (part.Value n x bs) h = (all_left P (of_value x) (flat_map bd bs) h, from_bodies bs (all_right P (of_value x) (flat_map bd bs) h))
  from_initializer (part.Block at is_static xs) h = from_statements xs h

  to_initializer : (i : TInitializer) → v.EveryInitializer of_value of_type of_inner P i → AllByRecursion P (t.of_initializer of_value of_type of_inner i)
  to_initializer (part.Value n x bs) h = all_both P (of_value x) (flat_map bd bs) h.0 (to_bodies bs h.1)
  to_initializer (part.Block at is_static xs) h = to_statements xs h

  abbrev fd : TField → List A
  fd = t.of_field of_value of_type of_inner

  abbrev mt : TMethod → List A
  mt = t.of_method of_value of_type of_inner

  abbrev kt : TConstructor → List A
  kt = t.of_constructor of_value of_type of_inner

  abbrev it : TInitializer → List A
  it = t.of_initializer of_value of_type of_inner

  pub each_class : (c : TClass) → AllByRecursion P (t.of_class of_value of_type of_inner c) → v.EveryClass of_value of_type of_inner P c
  each_class c h =
      let h1 : AllByRecursion P (flat_map fd c.fields ++ (flat_map mt c.methods ++ (flat_map kt c.constructors ++ flat_map it c.initializers))) = all_right P (flat_map tp c.type_params) _ h in
      let h2 : AllByRecursion P (flat_map mt c.methods ++ (flat_map kt c.constructors ++ flat_map it c.initializers)) = all_right P (flat_map fd c.fields) _ h1 in
      let h3 : AllByRecursion P (flat_map kt c.constructors ++ flat_map it c.initializers) = all_right P (flat_map mt c.methods) _ h2 in
      (from_type_params c.type_params (all_left P (flat_map tp c.type_params) _ h), (from_flat P fd c.fields (all_left P (flat_map fd c.fields) _ h1), (from_each P mt (v.EveryMethod of_value of_type of_inner P) from_method c.methods (all_left P (flat_map mt c.methods) _ h2), (from_each P kt (v.EveryConstructor of_value of_type of_inner P) from_constructor c.constructors (all_left P (flat_map kt c.constructors) _ h3), from_each P it (v.EveryInitializer of_value of_type of_inner P) from_initializer c.initializers (all_right P (flat_map kt c.constructors) _ h3)))))

  pub class_told : (c : TClass) → v.EveryClass of_value of_type of_inner P c → AllByRecursion P (t.of_class of_value of_type of_inner c)
  class_told c h =
      all_both P (flat_map tp c.type_params) (flat_map fd c.fields ++ (flat_map mt c.methods ++ (flat_map kt c.constructors ++ flat_map it c.initializers))) (to_type_params c.type_params h.0)
      (all_both P (flat_map fd c.fields) (flat_map mt c.methods ++ (flat_map kt c.constructors ++ flat_map it c.initializers)) (to_flat P fd c.fields h.1.0)
      (all_both P (flat_map mt c.methods) (flat_map kt c.constructors ++ flat_map it c.initializers) (to_each P mt (v.EveryMethod of_value of_type of_inner P) to_method c.methods h.1.1.0)
      (all_both P (flat_map kt c.constructors) (flat_map it c.initializers) (to_each P kt (v.EveryConstructor of_value of_type of_inner P) to_constructor c.constructors h.1.1.1.0) (to_each P it (v.EveryInitializer of_value of_type of_inner P) to_initializer c.initializers h.1.1.1.1))))

module _ {A : Type 0} (of_value : TExpr → List A) (of_type : TWritten → List A) (P : A → Type 0) where
  abbrev cl : TClass → List A
  cl = t.of_class of_value of_type (nothing_within of_value of_type)

  pub each_unit : (u : TUnit) → AllByRecursion P (of_unit of_value of_type u) → v.EveryUnit of_value of_type P u
  each_unit u h = from_each P cl (v.EveryClass of_value of_type (nothing_within of_value of_type) P) (each_class of_value of_type (nothing_within of_value of_type) P) u.classes h

  pub unit_told : (u : TUnit) → v.EveryUnit of_value of_type P u → AllByRecursion P (of_unit of_value of_type u)
  unit_told u h = to_each P cl (v.EveryClass of_value of_type (nothing_within of_value of_type) P) (class_told of_value of_type (nothing_within of_value of_type) P) u.classes h
