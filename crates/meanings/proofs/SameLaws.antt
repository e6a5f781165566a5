-- Laws of `Same`: what the languages share keeps it.
use Rattle.std.proofs.Common.{◌≡◌, ℕ, zero, suc, Bool, true, false, List, [], ◌∷◌, Option, Some, None, refl, sym, ap, ◌∙◌, subst, if◌then◌else◌, ◌&&◌, ◌⊎◌, inl, inr, arith, codes}
use Rattle.meanings.specs.Values.{Name, same_name, ClassName, Field, Site, Kind, Value, Null, Integer, Boolean, Units, Class, Companion, Object, Array, Lambda, captured_list, Step, Touch, InitEnd, Get, Put, Lib, Raise, Answer, Ready, Run, Mine, Failed, Done, Given, Raised, is_true, is_null, integer_in, text_of}
use Rattle.meanings.specs.Outcome.{Locals, get, State, Exit, Exits, Returns, Throws, Outcome, Gives, Meaning, then_do, pure, ◌>>=◌, ◌>>◌, jump, ask, ask_from, torn as torn_here, busy as busy_here, pay, pay_from, local, assign}
use Rattle.j2k_base.specs.declared.constants.Op2.{Op2}
use Rattle.j2k_base.specs.declared.constants.Const.{Const}
use Rattle.const_fold.specs.Constants.{operated, decided}
use Rattle.meanings.specs.Classes.{Classes, is_a, is_error}
use Rattle.meanings.specs.Machine.{Callee, InBody, InText, InRow, Place, received, ask_value, ask_done, raise, returned, apart, call, construct, call_text, call_in, call_on, text_site, converted, print_line, resulted, arithmetic, logic, binary, fail, init_end, initialize, touched, touch, check_null, get_field, put_field, all, sequence, choose, caught_exit, caught, catch, put_back, scoped, handled, try}
use Rattle.meanings.specs.Objects.{this_name, self, concat, after_all, finally, Handler, handler_of}
use Rattle.meanings.specs.Same.{no_exits, is_fresh, fresh, Alike, Kept, Keeps, Exiting, both, Stand, Same, asks, busy, gives, exits, returns, throws, torn, unreached, SameMeaning, AllSame, none, more, SamePlace}
use Rattle.meanings.proofs.SameValues.{same_name_true, same_name_self}

-- ---- names

pub get_same : (x : Name) (v : Value) (l : Locals) → get ((x, v) ∷ l) x ≡ v
get_same x v l = rw (same_name_self x) refl

pub same_name_ne : (x y : Name) → (x ≡ y → ⊥) → same_name x y ≡ false
same_name_ne x y ne = go (same_name x y) refl
  where
    go : (b : Bool) → same_name x y ≡ b → same_name x y ≡ false
    go true e = absurd (ne (same_name_true x y e))
    go false e = e

pub get_other : (x y : Name) (v : Value) (l : Locals) → (x ≡ y → ⊥) → get ((x, v) ∷ l) y ≡ get l y
get_other x y v l ne = rw (same_name_ne x y ne) refl

pub fresh_is_not_old : (x : Name) (k : ℕ) → is_fresh x ≡ false → x ≡ fresh k → ⊥
fresh_is_not_old x k old e = let c : true ≡ false = sym (ap is_fresh e) ∙ old in cc

-- ---- frames

pub keeps_all : {kept : Kept} (a : Locals) → Keeps kept a a
keeps_all a = record { at = λ x new. refl }

pub keeps_then : {kept : Kept} {a b c : Locals} → Keeps kept a b → Keeps kept b c → Keeps kept a c
keeps_then h k = record { at = λ x new. k.at x new ∙ h.at x new }

pub alike_at : {s t : State} → Alike s t → (l m : Locals) → ((x : Name) → is_fresh x ≡ false → get l x ≡ get m x) → Alike (record s { locals = l }) (record t { locals = m })
alike_at al l m h = record { answers = al.answers; n = al.n; locals = h }

and_left : (a b : Bool) → (a && b) ≡ true → a ≡ true
and_left true b e = refl
and_left false b e = cc

pub both_less : {kept : Kept} (low : Kept) {a b : Locals} → Keeps kept a b → Keeps (both kept low) a b
both_less {kept} low h = record { at = λ k is. h.at k (and_left (kept k) (low k) is) }

pub stand_from : {kept : Kept} (x : Exiting kept) {e e' : Exit} {a b c : Locals} → Keeps kept a b → Stand x e b c e' → Stand x e a c e'
stand_from x h s = record { is = s.is; keeps = keeps_then (both_less x.low h) s.keeps }

pub no_stand : {kept : Kept} {e e' : Exit} {a c : Locals} → Stand (no_exits {kept = kept}) e a c e' → ⊥
no_stand s = let c = s.is in cc

module _ {kept : Kept} {x : Exiting kept} where
  -- from earlier locals
  pub rebase : {a b : Locals} {A : Type 0} {o p : Outcome A} → Keeps kept a b → Same kept x b o p → Same kept x a o p
  rebase h (asks p) = asks p
  rebase h busy = busy
  rebase h (gives a al k) = gives a al (keeps_then h k)
  rebase h (exits al e) = exits al (stand_from x h e)
  rebase h (returns v al k) = returns v al (keeps_then h k)
  rebase h (throws v al k) = throws v al (keeps_then h k)
  rebase h (torn o) = torn o
  rebase h (unreached o) = unreached o

  pub then_same : {A B : Type 0} {l : Locals} {o p : Outcome A} {f g : A → Meaning B} → Same kept x l o p →
      ((a : A) (s t : State) → Alike s t → Keeps kept l s.locals → Same kept x s.locals (f a s) (g a t)) → Same kept x l (then_do o f) (then_do p g)
  then_same (asks p) h = asks p
  then_same busy h = busy
  then_same (gives a al k) h = rebase k (h a _ _ al k)
  then_same (exits al e) h = exits al e
  then_same (returns v al k) h = returns v al k
  then_same (throws v al k) h = throws v al k
  then_same (torn o) h = torn _
  then_same (unreached o) h = unreached _

  pub bind_same : {A B : Type 0} {k j : Meaning A} {f g : A → Meaning B} → SameMeaning kept x k j → ((a : A) → SameMeaning kept x (f a) (g a)) → SameMeaning kept x (k >>= f) (j >>= g)
  bind_same m h = record { by = λ al. then_same (m.by al) (λ a s t al' k. (h a).by al') }

  pub step_same : {A B : Type 0} {k j : Meaning A} {f g : Meaning B} → SameMeaning kept x k j → SameMeaning kept x f g → SameMeaning kept x (k >> f) (j >> g)
  step_same m h = record { by = λ al. then_same (m.by al) (λ a s t al' k. h.by al') }

  pub pure_same : {A : Type 0} (a : A) → SameMeaning kept x (pure a) (pure a)
  pure_same a = record { by = λ {s} al. gives a al (keeps_all s.locals) }

  pub returns_same : {A : Type 0} (v : Value) → SameMeaning kept x (jump {A = A} (Returns v)) (jump (Returns v))
  returns_same v = record { by = λ {s} al. returns v al (keeps_all s.locals) }

  pub throws_same : {A : Type 0} (v : Value) → SameMeaning kept x (jump {A = A} (Throws v)) (jump (Throws v))
  throws_same v = record { by = λ {s} al. throws v al (keeps_all s.locals) }

  pub torn_same : {A : Type 0} {j : Meaning A} → SameMeaning kept x torn_here j
  torn_same = record { by = λ al. torn _ }

  pub busy_same : {A : Type 0} → SameMeaning kept x (busy_here {A = A}) busy_here
  busy_same = record { by = λ al. busy }

  -- ---- steps

  ask_from_same : (p : Step) (s t : State) (us vs : List Answer) → us ≡ vs → Alike s t → Same kept x s.locals (ask_from p s us) (ask_from p t vs)
  ask_from_same p s t [] [] e al = asks p
  ask_from_same p s t [] (b ∷ vs) e al = cc
  ask_from_same p s t (a ∷ us) [] e al = cc
  ask_from_same p s t (a ∷ us) (b ∷ vs) e al =
      let same : a ≡ b = cc in
      let rest : us ≡ vs = cc in
      subst (λ c. Same kept x s.locals (Gives a (record s { answers = us })) (Gives c (record t { answers = vs }))) same
      (gives a (record { answers = rest; n = al.n; locals = al.locals }) (keeps_all s.locals))

  pub ask_same : (p : Step) → SameMeaning kept x (ask p) (ask p)
  ask_same p = record { by = λ {s} {t} al. ask_from_same p s t s.answers t.answers al.answers al }

  pub received_same : (a : Answer) → SameMeaning kept x (received a) (received a)
  received_same (Given v) = pure_same v
  received_same (Raised v) = throws_same v
  received_same Ready = pure_same Null
  received_same Run = pure_same Null
  received_same Mine = pure_same Null
  received_same Failed = pure_same Null
  received_same Done = pure_same Null

  pub ask_value_same : (p : Step) → SameMeaning kept x (ask_value p) (ask_value p)
  ask_value_same p = bind_same (ask_same p) received_same

  pub ask_done_same : (p : Step) → SameMeaning kept x (ask_done p) (ask_done p)
  ask_done_same p = step_same (ask_value_same p) (pure_same tt)

  pub raise_same : {A : Type 0} (class : Name) → SameMeaning kept x (raise {A = A} class) (raise class)
  raise_same class = bind_same (ask_value_same (Raise class)) throws_same

  pay_from_same : (s t : State) (m n : ℕ) → m ≡ n → Alike s t → Same kept x s.locals (pay_from s m) (pay_from t n)
  pay_from_same s t zero zero e al = busy
  pay_from_same s t zero (suc n) e al = absurd (omega arith)
  pay_from_same s t (suc m) zero e al = absurd (omega arith)
  pay_from_same s t (suc m) (suc n) e al = gives tt (record { answers = al.answers; n = omega arith; locals = al.locals }) (keeps_all s.locals)

  pub pay_same : SameMeaning kept x pay pay
  pay_same = record { by = λ {s} {t} al. pay_from_same s t s.n t.n al.n al }

  -- ---- locals

  pub local_same : (y : Name) → is_fresh y ≡ false → SameMeaning kept x (local y) (local y)
  local_same y old = record { by = λ {s} {t} al. subst (λ v. Same kept x s.locals (local y s) (Gives v t)) (al.locals y old) (gives (get s.locals y) al (keeps_all s.locals)) }

  pub self_same : SameMeaning kept x self self
  self_same = local_same this_name refl

  pub assign_same : (y : Name) (v : Value) → is_fresh y ≡ false → SameMeaning kept x (assign y v) (assign y v)
  assign_same y v old = record {
    by = λ {s} {t} al. gives tt (alike_at al ((y, v) ∷ s.locals) ((y, v) ∷ t.locals) (λ z h. ap (λ w. if same_name y z then v else w) (al.locals z h))) (record { at = λ k new. get_other y (fresh k) v s.locals (fresh_is_not_old y k old) });
  }

  -- ---- one after the other

  pub all_same : {ks js : List (Meaning Value)} → AllSame kept x ks js → SameMeaning kept x (all ks) (all js)
  all_same none = pure_same []
  all_same (more m ms) = bind_same m (λ v. bind_same (all_same ms) (λ vs. pure_same (v ∷ vs)))

  pub sequence_same : {ks js : List (Meaning (Unit {0}))} → AllSame kept x ks js → SameMeaning kept x (sequence ks) (sequence js)
  sequence_same none = pure_same tt
  sequence_same (more m ms) = step_same m (sequence_same ms)

  pub if_same : {A : Type 0} {k j k' j' : Meaning A} (b : Bool) → SameMeaning kept x k j → SameMeaning kept x k' j' → SameMeaning kept x (if b then k else k') (if b then j else j')
  if_same true h h' = h
  if_same false h h' = h'

  pub choose_same : {A : Type 0} {k j k' j' : Meaning A} → SameMeaning kept x k j → SameMeaning kept x k' j' → (v : Value) → SameMeaning kept x (choose k k' v) (choose j j' v)
  choose_same h h' v = if_same (is_true v) h h'

  -- ---- arithmetic

  resulted_same : (c : Option Const) → SameMeaning kept x (resulted c) (resulted c)
  resulted_same None = raise_same (codes "ArithmeticException")
  resulted_same (Some c) = pure_same _

  pub arithmetic_same : (op : Op2) (left both : Kind) (v w : Value) → SameMeaning kept x (arithmetic op left both v w) (arithmetic op left both v w)
  arithmetic_same op left both v w = resulted_same (operated op left both (integer_in v) (integer_in w))

  pub logic_same : (op : Op2) (v w : Value) → SameMeaning kept x (logic op v w) (logic op v w)
  logic_same op v w = resulted_same (decided op (is_true v) (is_true w))

  pub binary_same : {A : Type 0} {f g : Value → Value → Meaning A} {k j k' j' : Meaning Value} → ((v w : Value) → SameMeaning kept x (f v w) (g v w)) → SameMeaning kept x k j → SameMeaning kept x k' j' → SameMeaning kept x (binary f k k') (binary g j j')
  binary_same h m m' = bind_same m (λ v. bind_same m' (λ w. h v w))

  -- ---- fields

  pub check_null_same : (v : Value) → SameMeaning kept x (check_null v) (check_null v)
  check_null_same v = if_same (is_null v) (raise_same (codes "NullPointerException")) (pure_same tt)

  pub get_field_same : (v : Value) (field : Field) → SameMeaning kept x (get_field v field) (get_field v field)
  get_field_same v field = step_same (check_null_same v) (ask_value_same (Get v field))

  pub put_field_same : (v : Value) (field : Field) (new : Value) → SameMeaning kept x (put_field v field new) (put_field v field new)
  put_field_same v field new = step_same (check_null_same v) (ask_done_same (Put v field new))

-- ---- bodies

module _ {kept kept' : Kept} {x : Exiting kept} {x' : Exiting kept'} where
  returned_same : {l : Locals} {o p : Outcome (Unit {0})} (s t : State) → Alike s t → Same kept' x' l o p → Same kept x s.locals (returned s.locals o) (returned t.locals p)
  returned_same s t al (asks p) = asks p
  returned_same s t al busy = busy
  returned_same s t al (gives a al' k) = gives Null (alike_at al' s.locals t.locals al.locals) (keeps_all s.locals)
  returned_same s t al (exits al' e) = gives Null (alike_at al' s.locals t.locals al.locals) (keeps_all s.locals)
  returned_same s t al (returns v al' k) = gives v (alike_at al' s.locals t.locals al.locals) (keeps_all s.locals)
  returned_same s t al (throws v al' k) = throws v (alike_at al' s.locals t.locals al.locals) (keeps_all s.locals)
  returned_same s t al (torn o) = torn _
  returned_same s t al (unreached o) = unreached _

  pub apart_same : {k j : Meaning (Unit {0})} → SameMeaning kept' x' k j → SameMeaning kept x (apart k) (apart j)
  apart_same m = record { by = λ {s} {t} al. returned_same s t al (m.by {s = record s { locals = [] }} {t = record t { locals = [] }} (alike_at al [] [] (λ y old. refl))) }

-- catches of the same classes
pub data SameHandlers (kept : Kept) (x : Exiting kept) : List Handler → List Handler → Type 0 where
  no_handlers : SameHandlers kept x [] []
  one_handler : {h g : Handler} {hs gs : List Handler} → h.type ≡ g.type → ((v : Value) → SameMeaning kept x (h.does v) (g.does v)) → SameHandlers kept x hs gs → SameHandlers kept x (h ∷ hs) (g ∷ gs)

module _ {kept : Kept} {x : Exiting kept} {k j : Place} (p : SamePlace k j) where
  pub call_same : (site : Site) (vs : List Value) → SameMeaning kept x (call k site vs) (call j site vs)
  call_same site vs = p.bodies.method site vs kept x

  pub construct_same : (site : Site) (vs : List Value) → SameMeaning kept x (construct k site vs) (construct j site vs)
  construct_same site vs = p.bodies.constructor site vs kept x

  text_same : (v : Value) (vs : List Value) → SameMeaning kept x (call_text k v vs) (call_text j v vs)
  text_same (Lambda own n captured) vs = p.bodies.lambda own (captured_list captured) vs kept x
  text_same Null vs = torn_same
  text_same (Integer kind z) vs = torn_same
  text_same (Boolean b) vs = torn_same
  text_same (Units units) vs = torn_same
  text_same (Class name) vs = torn_same
  text_same (Companion name) vs = torn_same
  text_same (Object class n captured) vs = torn_same
  text_same (Array elements length n) vs = torn_same

  callee_same : (v : Value) (vs : List Value) (callee : Callee) → SameMeaning kept x (call_in k v vs callee) (call_in j v vs callee)
  callee_same v vs (InBody site) = call_same site (v ∷ vs)
  callee_same v vs InText = text_same v vs
  callee_same v vs (InRow row) = ask_value_same (Lib row (v ∷ vs))

  pub call_on_same : (site : Site) (v : Value) (vs : List Value) → SameMeaning kept x (call_on k site v vs) (call_on j site v vs)
  call_on_same site v vs = subst (λ callee. SameMeaning kept x (call_on k site v vs) (call_in j v vs callee)) (p.resolves site v) (callee_same v vs (k.resolves site v))

  -- ---- class initialization

  fail_same : (v : Value) → SameMeaning kept x (fail k.classes v) (fail j.classes v)
  fail_same v = subst (λ c. SameMeaning kept x (fail k.classes v) (fail c v)) p.classes (if_same (is_error k.classes v) (throws_same v) (raise_same (codes "ExceptionInInitializerError")))

  init_end_same : (class : ClassName) {l : Locals} {o q : Outcome Value} → Same kept no_exits l o q → Same kept x l (init_end k.classes class o) (init_end j.classes class q)
  init_end_same class (asks q) = asks q
  init_end_same class busy = busy
  init_end_same class (gives a al h) = rebase h ((ask_done_same (InitEnd class true)).by al)
  init_end_same class (exits al h) = absurd (no_stand h)
  init_end_same class (returns v al h) = rebase h ((ask_done_same (InitEnd class true)).by al)
  init_end_same class (throws v al h) = rebase h ((step_same (ask_done_same (InitEnd class false)) (fail_same v)).by al)
  init_end_same class (torn o) = torn _
  init_end_same class (unreached o) = unreached _

  pub initialize_same : (class : ClassName) → SameMeaning kept x (initialize k class) (initialize j class)
  initialize_same class = record { by = λ al. init_end_same class ((p.bodies.initializer class kept no_exits).by al) }

  touched_same : (class : ClassName) (a : Answer) → SameMeaning kept x (touched k class a) (touched j class a)
  touched_same class Run = initialize_same class
  touched_same class Failed = raise_same (codes "NoClassDefFoundError")
  touched_same class Ready = pure_same tt
  touched_same class Mine = pure_same tt
  touched_same class Done = pure_same tt
  touched_same class (Given v) = pure_same tt
  touched_same class (Raised v) = pure_same tt

  pub touch_same : (class : ClassName) → SameMeaning kept x (touch k class) (touch j class)
  touch_same class = rw (p.touches class) (if_same (j.touches class) (bind_same (ask_same (Touch class)) (touched_same class)) (pure_same tt))

  -- ---- String conversion

  pub converted_same : (v : Value) → SameMeaning kept x (converted k v) (converted j v)
  converted_same (Object class n captured) = bind_same (call_on_same text_site (Object class n captured) []) (λ w. pure_same (text_of w))
  converted_same (Lambda own n captured) = pure_same _
  converted_same Null = pure_same _
  converted_same (Integer kind z) = pure_same _
  converted_same (Boolean b) = pure_same _
  converted_same (Units units) = pure_same _
  converted_same (Class name) = pure_same _
  converted_same (Companion name) = pure_same _
  converted_same (Array elements length n) = pure_same _

  pub concat_same : (v w : Value) → SameMeaning kept x (concat k v w) (concat j v w)
  concat_same v w = bind_same (converted_same v) (λ a. bind_same (converted_same w) (λ b. pure_same _))

  pub print_line_same : (v : Value) → SameMeaning kept x (print_line k v) (print_line j v)
  print_line_same v = bind_same (converted_same v) (λ a. ask_done_same _)

-- ---- exits

-- each exit of Kotlin that stands for one of Java's is caught where that is, or stands for it outside
pub record Splits {kept inner_kept : Kept} (inner : Exiting inner_kept) (outer : Exiting kept) (is_k is_j : Exit → Bool) : Type 0 where
  pub one : (e e' : Exit) (a c : Locals) → Stand inner e a c e' → ((is_k e ≡ true) × (is_j e' ≡ true) × Keeps kept a c) ⊎ ((is_k e ≡ false) × (is_j e' ≡ false) × Stand outer e a c e')

-- what the inner part keeps is kept outside
pub record Within (kept inner_kept : Kept) : Type 0 where
  pub at : (k : ℕ) → kept k ≡ true → inner_kept k ≡ true

pub within_self : {kept : Kept} → Within kept kept
within_self = record { at = λ k h. h }

pub less_kept : {kept inner_kept : Kept} {a c : Locals} → Within kept inner_kept → Keeps inner_kept a c → Keeps kept a c
less_kept w h = record { at = λ k is. h.at k (w.at k is) }

module _ {kept : Kept} {outer : Exiting kept} where
  exit_split : (is_k is_j : Exit → Bool) {e e' : Exit} {a : Locals} {s t : State} → Alike s t →
      ((is_k e ≡ true) × (is_j e' ≡ true) × Keeps kept a s.locals) ⊎ ((is_k e ≡ false) × (is_j e' ≡ false) × Stand outer e a s.locals e') →
      Same kept outer a (caught_exit (is_k e) e s) (caught_exit (is_j e') e' t)
  exit_split is_k is_j al (inl h) = rw (h.0, h.1) (gives tt al h.2)
  exit_split is_k is_j al (inr h) = rw (h.0, h.1) (exits al h.2)

module _ {kept inner_kept : Kept} {outer : Exiting kept} {inner : Exiting inner_kept} (w : Within kept inner_kept) where
  pub caught_same : (is_k is_j : Exit → Bool) → Splits inner outer is_k is_j → {l : Locals} {o q : Outcome (Unit {0})} → Same inner_kept inner l o q → Same kept outer l (caught is_k o) (caught is_j q)
  caught_same is_k is_j h (asks p) = asks p
  caught_same is_k is_j h busy = busy
  caught_same is_k is_j h (gives a al k) = gives a al (less_kept w k)
  caught_same is_k is_j h {l} (exits {e} {e'} {s} al e1) = exit_split is_k is_j al (h.one e e' l s.locals e1)
  caught_same is_k is_j h (returns v al k) = returns v al (less_kept w k)
  caught_same is_k is_j h (throws v al k) = throws v al (less_kept w k)
  caught_same is_k is_j h (torn o) = torn _
  caught_same is_k is_j h (unreached o) = unreached _

  pub catch_same : (is_k is_j : Exit → Bool) → Splits inner outer is_k is_j → {k j : Meaning (Unit {0})} → SameMeaning inner_kept inner k j → SameMeaning kept outer (catch is_k k) (catch is_j j)
  catch_same is_k is_j h m = record { by = λ al. caught_same is_k is_j h (m.by al) }

-- ---- exceptions

-- the exits that stand for one another do so from any later locals
pub record Steady {kept : Kept} (x : Exiting kept) : Type 0 where
  pub keeps : {e e' : Exit} {a b : Locals} → Stand x e a b e' → Keeps kept a b
  pub still : {e e' : Exit} {a b c d : Locals} → Stand x e a b e' → Keeps kept c d → Stand x e c d e'

module _ {kept : Kept} {x : Exiting kept} where
  handled_same : {l : Locals} {o p : Outcome (Unit {0})} {f g : Value → Meaning (Unit {0})} → Same kept x l o p → ((v : Value) → SameMeaning kept x (f v) (g v)) → Same kept x l (handled f o) (handled g p)
  handled_same (asks p) h = asks p
  handled_same busy h = busy
  handled_same (gives a al k) h = gives a al k
  handled_same (exits al e) h = exits al e
  handled_same (returns v al k) h = returns v al k
  handled_same (throws v al k) h = rebase k ((h v).by al)
  handled_same (torn o) h = torn _
  handled_same (unreached o) h = unreached _

  pub try_same : {k j : Meaning (Unit {0})} {f g : Value → Meaning (Unit {0})} → SameMeaning kept x k j → ((v : Value) → SameMeaning kept x (f v) (g v)) → SameMeaning kept x (try k f) (try j g)
  try_same m h = record { by = λ al. handled_same (m.by al) h }

  pub handler_same : (c : Classes) {hs gs : List Handler} → SameHandlers kept x hs gs → (v : Value) → SameMeaning kept x (handler_of c hs v) (handler_of c gs v)
  handler_same c no_handlers v = throws_same v
  handler_same c (one_handler {h} {g} {hs} {gs} same does others) v =
      subst (λ type. SameMeaning kept x (handler_of c (h ∷ hs) v) (if is_a c type v then g.does v else handler_of c gs v)) same
      (if_same (is_a c h.type v) (does v) (handler_same c others v))

  exit_last : Steady x → {e e' : Exit} {l b : Locals} {o p : Outcome (Unit {0})} → Stand x e l b e' → Same kept x b o p → Same kept x l (then_do o (λ a. jump {A = Unit {0}} (Exits e))) (then_do p (λ a. jump {A = Unit {0}} (Exits e')))
  exit_last y i h = rebase (y.keeps i) (then_same h (λ a s t al k. exits al (y.still i (keeps_all s.locals))))

  -- the end itself, after what follows in any case
  after_same : Steady x → {l : Locals} {o p : Outcome (Unit {0})} {f g : Meaning (Unit {0})} → Same kept x l o p → SameMeaning kept x f g → Same kept x l (after_all f o) (after_all g p)
  after_same y (asks p) h = asks p
  after_same y busy h = busy
  after_same y (gives a al k) h = rebase k (h.by al)
  after_same y (exits al i) h = exit_last y i (h.by al)
  after_same y (returns v al k) h = rebase k (then_same (h.by al) (λ a s t al' k'. (returns_same v).by al'))
  after_same y (throws v al k) h = rebase k (then_same (h.by al) (λ a s t al' k'. (throws_same v).by al'))
  after_same y (torn o) h = torn _
  after_same y (unreached o) h = unreached _

  pub finally_same : Steady x → {k j f g : Meaning (Unit {0})} → SameMeaning kept x k j → SameMeaning kept x f g → SameMeaning kept x (finally k f) (finally j g)
  finally_same y m h = record { by = λ al. after_same y (m.by al) h }

-- ---- names that end with their statement

-- the exits that stand for one another do so whatever this name holds
pub record Apart {kept : Kept} (x : Exiting kept) (y : Name) : Type 0 where
  pub at : {e e' : Exit} {a b : Locals} (v : Value) → Stand x e a b e' → Stand x e a ((y, v) ∷ b) e'

module _ (y : Name) (old : is_fresh y ≡ false) where
  shut : {s t : State} (v : Value) → Alike s t → Alike (record s { locals = (y, v) ∷ s.locals }) (record t { locals = (y, v) ∷ t.locals })
  shut {s} {t} v al = alike_at al ((y, v) ∷ s.locals) ((y, v) ∷ t.locals) (λ z h. ap (λ w. if same_name y z then v else w) (al.locals z h))

  keeps_shut : {kept : Kept} {a b : Locals} (v : Value) → Keeps kept a b → Keeps kept a ((y, v) ∷ b)
  keeps_shut {a} {b} v h = record { at = λ k new. get_other y (fresh k) v b (fresh_is_not_old y k old) ∙ h.at k new }

module _ {kept : Kept} {x : Exiting kept} (y : Name) (old : is_fresh y ≡ false) where
  put_back_same : Apart x y → {A : Type 0} {l : Locals} {o p : Outcome A} (v : Value) → Same kept x l o p → Same kept x l (put_back y v o) (put_back y v p)
  put_back_same apart v (asks p) = asks p
  put_back_same apart v busy = busy
  put_back_same apart v (gives a al k) = gives a (shut y old v al) (keeps_shut y old v k)
  put_back_same apart v (exits al e) = exits (shut y old v al) (apart.at v e)
  put_back_same apart v (returns w al k) = returns w (shut y old v al) (keeps_shut y old v k)
  put_back_same apart v (throws w al k) = throws w (shut y old v al) (keeps_shut y old v k)
  put_back_same apart v (torn o) = torn _
  put_back_same apart v (unreached o) = unreached _

  pub scoped_same : Apart x y → {A : Type 0} {k j : Meaning A} → SameMeaning kept x k j → SameMeaning kept x (scoped y k) (scoped y j)
  scoped_same apart {A} {k} {j} m = record {
    by = λ {s} {t} al. subst (λ v. Same kept x s.locals (scoped y k s) (put_back y v (j t))) (al.locals y old) (put_back_same apart (get s.locals y) (m.by al));
  }
