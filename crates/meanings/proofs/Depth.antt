-- The depth n + length answers is never used up: any larger one gives the same thread.
use Rattle.std.proofs.Common.{◌≡◌, ℕ, zero, suc, ◌+◌, ◌≤◌, ℤ, pos, negsuc, Bool, true, false, List, [], ◌∷◌, ◌++◌, length, Option, Some, None, refl, ap, arith, if◌then◌else◌}
use Rattle.std.specs.Prelude.{nat_lt}
use Rattle.j2k_base.specs.declared.constants.Op2.{Op2}
use Rattle.j2k_base.specs.declared.constants.Const.{Const}
use Rattle.const_fold.specs.Constants.{operated, decided}
use Rattle.meanings.specs.Values.{Name, ClassName, same_class, Field, Site, same_site, Kind, Value, Null, Integer, Boolean, Units, Class, Companion, Object, Array, Lambda, captured_list, Step, Touch, InitEnd, Get, Put, GetElem, PutElem, Lib, Raise, Torn, Answer, Ready, Run, Mine, Failed, Done, Given, Raised, integer_in, is_true, is_null}
use Rattle.meanings.specs.Classes.{Classes, is_error}
use Rattle.meanings.specs.Outcome.{Locals, State, Exit, Jump, Exits, Returns, Throws, Outcome, Asks, Busy, Gives, Jumps, Meaning, then_do, pure, ◌>>=◌, ◌>>◌, jump, ask, ask_from, torn, busy, pay, pay_from, local, assign, assign_all}
use Rattle.meanings.specs.Machine.{Bodies, Callee, InBody, InText, InRow, Place, received, ask_value, ask_done, raise, returned, apart, call_text, call_in, call_on, text_site, converted, fail, init_end, touched, touch, check_null, get_field, put_field, length_in, index_in, get_element, put_element, print_line, resulted, arithmetic, logic, binary, all, sequence, choose, caught_exit, caught, catch, turns, loop, put_back, scoped, handled, try, is_break, is_continue}
use Rattle.meanings.specs.Program.{Body, Initializer, Program, Start, Enters, Runs, turn, place, outside, enter, begin, bodies, thread_from, thread_at, thread, run_site}

-- how many bodies may still be entered from here
abbrev weight : State → ℕ
weight s = s.n + length s.answers

-- the same outcome, with no more weight at its end
pub data AtMost (u : ℕ) {A : Type 0} : Outcome A → Outcome A → Type 0 where
  asks : (p : Step) → AtMost u (Asks p) (Asks p)
  busy_too : AtMost u Busy Busy
  gives : (a : A) (s : State) → weight s ≤ u → AtMost u (Gives a s) (Gives a s)
  jumps : (j : Jump) (s : State) → weight s ≤ u → AtMost u (Jumps j s) (Jumps j s)

-- the same from each situation of at most this weight
pub record Within (w : ℕ) {A : Type 0} (m m' : Meaning A) : Type 0 where
  pub by : (s : State) → weight s ≤ w → AtMost (weight s) (m s) (m' s)

more_weight : {u v : ℕ} {A : Type 0} {o o' : Outcome A} → u ≤ v → AtMost u o o' → AtMost v o o'
more_weight le (asks p) = asks p
more_weight le busy_too = busy_too
more_weight le (gives a s h) = gives a s (omega arith)
more_weight le (jumps j s h) = jumps j s (omega arith)

less : {v w : ℕ} {A : Type 0} {m m' : Meaning A} → v ≤ w → Within w m m' → Within v m m'
less le h = record { by = λ s l. h.by s (omega arith) }

then_within : {u : ℕ} {A B : Type 0} {o o' : Outcome A} {f g : A → Meaning B} → AtMost u o o' → ((a : A) (s : State) → weight s ≤ u → AtMost (weight s) (f a s) (g a s)) → AtMost u (then_do o f) (then_do o' g)
then_within (asks p) h = asks p
then_within busy_too h = busy_too
then_within (gives a s l) h = more_weight l (h a s l)
then_within (jumps j s l) h = jumps j s l

module _ {w : ℕ} where
  pub bind_within : {A B : Type 0} {m m' : Meaning A} {f g : A → Meaning B} → Within w m m' → ((a : A) → Within w (f a) (g a)) → Within w (m >>= f) (m' >>= g)
  bind_within h k = record { by = λ s l. then_within (h.by s l) (λ a s' l'. (k a).by s' (omega arith)) }

  pub step_within : {A B : Type 0} {m m' : Meaning A} {f g : Meaning B} → Within w m m' → Within w f g → Within w (m >> f) (m' >> g)
  step_within h k = record { by = λ s l. then_within (h.by s l) (λ a s' l'. k.by s' (omega arith)) }

  pub pure_within : {A : Type 0} (a : A) → Within w (pure a) (pure a)
  pure_within a = record { by = λ s l. gives a s (omega arith) }

  pub jump_within : {A : Type 0} (j : Jump) → Within w (jump {A = A} j) (jump j)
  jump_within j = record { by = λ s l. jumps j s (omega arith) }

  pub local_within : (name : Name) → Within w (local name) (local name)
  local_within name = record { by = λ s l. gives _ s (omega arith) }

  pub assign_within : (name : Name) (v : Value) → Within w (assign name v) (assign name v)
  assign_within name v = record { by = λ s l. gives tt _ (omega arith) }

  pub assign_all_within : (xs : List Name) (vs : List Value) → Within w (assign_all xs vs) (assign_all xs vs)
  assign_all_within [] vs = pure_within tt
  assign_all_within (x ∷ xs) [] = pure_within tt
  assign_all_within (x ∷ xs) (v ∷ vs) = step_within (assign_within x v) (assign_all_within xs vs)

  pub busy_within : {A : Type 0} → Within w (busy {A = A}) busy
  busy_within = record { by = λ s l. busy_too }

  pub if_within : {A : Type 0} {m m' k k' : Meaning A} (b : Bool) → Within w m m' → Within w k k' → Within w (if b then m else k) (if b then m' else k')
  if_within true h g = h
  if_within false h g = g

  pub choose_within : {A : Type 0} {m m' k k' : Meaning A} → Within w m m' → Within w k k' → (v : Value) → Within w (choose m k v) (choose m' k' v)
  choose_within h g v = if_within (is_true v) h g

-- ---- an answer is used up

ask_then : {A : Type 0} (p : Step) {f g : Answer → Meaning A} (s : State) (xs : List Answer) →
    ((a : Answer) (s' : State) → s'.n + length s'.answers + 1 ≤ s.n + length xs → AtMost (weight s') (f a s') (g a s')) →
    AtMost (s.n + length xs) (then_do (ask_from p s xs) f) (then_do (ask_from p s xs) g)
ask_then p s [] h = asks p
ask_then p s (a ∷ xs) h = more_weight (omega arith) (h a (record s { answers = xs }) (omega arith))

asks_from : (p : Step) (s : State) (xs : List Answer) → AtMost (s.n + length xs) (ask_from p s xs) (ask_from p s xs)
asks_from p s [] = asks p
asks_from p s (a ∷ xs) = gives a _ (omega arith)

module _ {w : ℕ} where
  pub ask_within : (p : Step) → Within w (ask p) (ask p)
  ask_within p = record { by = λ s l. asks_from p s s.answers }

  received_within : (a : Answer) → Within w (received a) (received a)
  received_within (Given v) = pure_within v
  received_within (Raised v) = jump_within (Throws v)
  received_within Ready = pure_within Null
  received_within Run = pure_within Null
  received_within Mine = pure_within Null
  received_within Failed = pure_within Null
  received_within Done = pure_within Null

  pub ask_value_within : (p : Step) → Within w (ask_value p) (ask_value p)
  ask_value_within p = bind_within (ask_within p) received_within

  pub ask_done_within : (p : Step) → Within w (ask_done p) (ask_done p)
  ask_done_within p = step_within (ask_value_within p) (pure_within tt)

  pub raise_within : {A : Type 0} (class : Name) → Within w (raise {A = A} class) (raise class)
  raise_within class = bind_within (ask_value_within (Raise class)) (λ v. jump_within (Throws v))

  torn_within : {A : Type 0} → Within w (torn {A = A}) torn
  torn_within = record { by = λ s l. asks Torn }

  resulted_within : (c : Option Const) → Within w (resulted c) (resulted c)
  resulted_within None = raise_within _
  resulted_within (Some c) = pure_within _

  pub arithmetic_within : (op : Op2) (left both : Kind) (x y : Value) → Within w (arithmetic op left both x y) (arithmetic op left both x y)
  arithmetic_within op left both x y = resulted_within (operated op left both (integer_in x) (integer_in y))

  pub logic_within : (op : Op2) (x y : Value) → Within w (logic op x y) (logic op x y)
  logic_within op x y = resulted_within (decided op (is_true x) (is_true y))

  pub binary_within : {A : Type 0} {operation operation' : Value → Value → Meaning A} {a a' b b' : Meaning Value} → ((x y : Value) → Within w (operation x y) (operation' x y)) →
      Within w a a' → Within w b b' → Within w (binary operation a b) (binary operation' a' b')
  binary_within h a b = bind_within a (λ x. bind_within b (h x))

  check_null_within : (v : Value) → Within w (check_null v) (check_null v)
  check_null_within v = if_within (is_null v) (raise_within _) (pure_within tt)

  pub get_field_within : (v : Value) (field : Field) → Within w (get_field v field) (get_field v field)
  get_field_within v field = step_within (check_null_within v) (ask_value_within (Get v field))

  pub put_field_within : (v : Value) (field : Field) (new : Value) → Within w (put_field v field new) (put_field v field new)
  put_field_within v field new = step_within (check_null_within v) (ask_done_within (Put v field new))

  index_within : (v : Value) (i : ℤ) → Within w (index_in v i) (index_in v i)
  index_within v (pos k) = if_within (nat_lt k (length_in v)) (pure_within k) (raise_within _)
  index_within v (negsuc k) = raise_within _

  pub get_element_within : (v i : Value) → Within w (get_element v i) (get_element v i)
  get_element_within v i = bind_within (step_within (check_null_within v) (index_within v (integer_in i))) (λ k. ask_value_within (GetElem v k))

  pub put_element_within : (v i new : Value) → Within w (put_element v i new) (put_element v i new)
  put_element_within v i new = bind_within (step_within (check_null_within v) (index_within v (integer_in i))) (λ k. ask_done_within (PutElem v k new))

-- ---- bodies

-- The two have the same bodies of at most this weight; an initializer comes after an answer, so it has one less.
pub record WithinBodies (w : ℕ) (b b' : Bodies) : Type 0 where
  pub method : (site : Site) (vs : List Value) → Within w (b.method site vs) (b'.method site vs)
  pub constructor : (site : Site) (vs : List Value) → Within w (b.constructor site vs) (b'.constructor site vs)
  pub lambda : (site : Site) (captured vs : List Value) → Within w (b.lambda site captured vs) (b'.lambda site captured vs)
  pub initializer : (v : ℕ) (class : ClassName) → v + 1 ≤ w → Within v (b.initializer class) (b'.initializer class)

returned_within : {u : ℕ} {o o' : Outcome (Unit {0})} (l : Locals) → AtMost u o o' → AtMost u (returned l o) (returned l o')
returned_within l (asks p) = asks p
returned_within l busy_too = busy_too
returned_within l (gives a s h) = gives Null _ h
returned_within l (jumps (Exits e) s h) = gives Null _ h
returned_within l (jumps (Returns v) s h) = gives v _ h
returned_within l (jumps (Throws v) s h) = jumps (Throws v) _ h

pub apart_within : {w : ℕ} {m m' : Meaning (Unit {0})} → Within w m m' → Within w (apart m) (apart m')
apart_within h = record { by = λ s l. returned_within s.locals (h.by (record s { locals = [] }) l) }

fail_within : {w : ℕ} (c : Classes) (v : Value) → Within w (fail c v) (fail c v)
fail_within c v = if_within (is_error c v) (jump_within (Throws v)) (raise_within _)

init_end_within : {u : ℕ} (c : Classes) (class : ClassName) {o o' : Outcome Value} → AtMost u o o' → AtMost u (init_end c class o) (init_end c class o')
init_end_within c class (asks p) = asks p
init_end_within c class busy_too = busy_too
init_end_within {u} c class (gives a s h) = more_weight h ((ask_done_within {w = u} (InitEnd class true)).by s h)
init_end_within {u} c class (jumps (Throws v) s h) = more_weight h ((step_within {w = u} (ask_done_within (InitEnd class false)) (fail_within c v)).by s h)
init_end_within {u} c class (jumps (Returns v) s h) = more_weight h ((ask_done_within {w = u} (InitEnd class true)).by s h)
init_end_within {u} c class (jumps (Exits e) s h) = more_weight h ((ask_done_within {w = u} (InitEnd class true)).by s h)

-- a place with other bodies
abbrev pub with_bodies : Place → Bodies → Place
with_bodies p b = record p { bodies = b }

-- ---- calls on a value

module _ {w : ℕ} (p : Place) {b b' : Bodies} (h : WithinBodies w b b') where
  text_within : (v : Value) (vs : List Value) → Within w (call_text (with_bodies p b) v vs) (call_text (with_bodies p b') v vs)
  text_within (Lambda own k captured) vs = apart_within (h.lambda own (captured_list captured) vs)
  text_within Null vs = torn_within
  text_within (Integer kind z) vs = torn_within
  text_within (Boolean c) vs = torn_within
  text_within (Units units) vs = torn_within
  text_within (Class name) vs = torn_within
  text_within (Companion name) vs = torn_within
  text_within (Object class k captured) vs = torn_within
  text_within (Array elements length k) vs = torn_within

  callee_within : (v : Value) (vs : List Value) (callee : Callee) → Within w (call_in (with_bodies p b) v vs callee) (call_in (with_bodies p b') v vs callee)
  callee_within v vs (InBody site) = apart_within (h.method site (v ∷ vs))
  callee_within v vs InText = text_within v vs
  callee_within v vs (InRow row) = ask_value_within (Lib row (v ∷ vs))

  pub call_on_within : (site : Site) (v : Value) (vs : List Value) → Within w (call_on (with_bodies p b) site v vs) (call_on (with_bodies p b') site v vs)
  call_on_within site v vs = callee_within v vs (p.resolves site v)

  pub converted_within : (v : Value) → Within w (converted (with_bodies p b) v) (converted (with_bodies p b') v)
  converted_within (Object class k captured) = bind_within (call_on_within text_site (Object class k captured) []) (λ u. pure_within _)
  converted_within Null = pure_within _
  converted_within (Integer kind z) = pure_within _
  converted_within (Boolean c) = pure_within _
  converted_within (Units units) = pure_within _
  converted_within (Class name) = pure_within _
  converted_within (Companion name) = pure_within _
  converted_within (Array elements length k) = pure_within _
  converted_within (Lambda own k captured) = pure_within _

  pub print_line_within : (v : Value) → Within w (print_line (with_bodies p b) v) (print_line (with_bodies p b') v)
  print_line_within v = bind_within (converted_within v) (λ units. ask_done_within _)

-- ---- class initialization

touched_within : {w : ℕ} (p : Place) {b b' : Bodies} → WithinBodies w b b' → (class : ClassName) (v : ℕ) → v + 1 ≤ w → (a : Answer) → Within v (touched (with_bodies p b) class a) (touched (with_bodies p b') class a)
touched_within p h class v l Run = record { by = λ s l'. init_end_within p.classes class ((apart_within (h.initializer v class l)).by s l') }
touched_within p h class v l Failed = raise_within _
touched_within p h class v l Ready = pure_within tt
touched_within p h class v l Mine = pure_within tt
touched_within p h class v l Done = pure_within tt
touched_within p h class v l (Given x) = pure_within tt
touched_within p h class v l (Raised x) = pure_within tt

pub touch_within : {w : ℕ} (p : Place) {b b' : Bodies} → WithinBodies w b b' → (class : ClassName) → Within w (touch (with_bodies p b) class) (touch (with_bodies p b') class)
touch_within {w} p h class =
    if_within (p.touches class)
    (record { by = λ s l. ask_then (Touch class) s s.answers (λ a s' l'. (touched_within p h class (weight s') (omega arith) a).by s' (omega arith)) }) (pure_within tt)

-- ---- jumps and loops

caught_exit_within : {u : ℕ} (b : Bool) (e : Exit) (s : State) → weight s ≤ u → AtMost u (caught_exit b e s) (caught_exit b e s)
caught_exit_within true e s h = gives tt s h
caught_exit_within false e s h = jumps _ s h

caught_within : {u : ℕ} (is : Exit → Bool) {o o' : Outcome (Unit {0})} → AtMost u o o' → AtMost u (caught is o) (caught is o')
caught_within is (asks p) = asks p
caught_within is busy_too = busy_too
caught_within is (gives a s h) = gives a s h
caught_within is (jumps (Exits e) s h) = caught_exit_within (is e) e s h
caught_within is (jumps (Returns v) s h) = jumps _ s h
caught_within is (jumps (Throws v) s h) = jumps _ s h

handled_within : {u : ℕ} {o o' : Outcome (Unit {0})} {f g : Value → Meaning (Unit {0})} → AtMost u o o' → ((v : Value) (s : State) → weight s ≤ u → AtMost (weight s) (f v s) (g v s)) → AtMost u (handled f o) (handled g o')
handled_within (asks p) k = asks p
handled_within busy_too k = busy_too
handled_within (gives a s h) k = gives a s h
handled_within (jumps (Exits e) s h) k = jumps _ s h
handled_within (jumps (Returns v) s h) k = jumps _ s h
handled_within (jumps (Throws v) s h) k = more_weight h (k v s h)

pay_from_within : (s : State) (n : ℕ) {m m' : Meaning (Unit {0})} (v : ℕ) → n + length s.answers ≤ v + 1 → Within v m m' → AtMost (n + length s.answers) (then_do (pay_from s n) (λ _. m)) (then_do (pay_from s n) (λ _. m'))
pay_from_within s zero v l h = busy_too
pay_from_within s (suc n) v l h = more_weight (omega arith) (h.by (record s { n = n }) (omega arith))

pay_within : {v : ℕ} {m m' : Meaning (Unit {0})} → Within v m m' → Within (v + 1) (pay >> m) (pay >> m')
pay_within {v} h = record { by = λ s l. pay_from_within s s.n v l h }

pays : (s : State) (n : ℕ) → AtMost (n + length s.answers) (pay_from s n) (pay_from s n)
pays s zero = busy_too
pays s (suc n) = gives tt _ (omega arith)

module _ {w : ℕ} where
  pub catch_within : (is : Exit → Bool) {m m' : Meaning (Unit {0})} → Within w m m' → Within w (catch is m) (catch is m')
  catch_within is h = record { by = λ s l. caught_within is (h.by s l) }

  pub try_within : {m m' : Meaning (Unit {0})} {f g : Value → Meaning (Unit {0})} → Within w m m' → ((v : Value) → Within w (f v) (g v)) → Within w (try m f) (try m' g)
  try_within h k = record { by = λ s l. handled_within (h.by s l) (λ v s' l'. (k v).by s' (omega arith)) }

  turns_within : (n : ℕ) {test test' : Meaning Value} {body body' : Meaning (Unit {0})} → Within w test test' → Within w body body' → Within w (turns n test body) (turns n test' body')
  turns_within zero t b = bind_within t (choose_within busy_within (pure_within tt))
  turns_within (suc n) t b = bind_within t (choose_within (step_within (step_within (record { by = λ s l. pays s s.n }) b) (turns_within n t b)) (pure_within tt))

  pub loop_within : (labels : List Name) {test test' : Meaning Value} {body body' : Meaning (Unit {0})} → Within w test test' → Within w body body' → Within w (loop labels test body) (loop labels test' body')
  loop_within labels t b = record { by = λ s h. (catch_within (is_break labels) (turns_within s.n t (catch_within (is_continue labels) b))).by s h }

put_back_within : {u : ℕ} {A : Type 0} (name : Name) (v : Value) {o o' : Outcome A} → AtMost u o o' → AtMost u (put_back name v o) (put_back name v o')
put_back_within name v (asks p) = asks p
put_back_within name v busy_too = busy_too
put_back_within name v (gives a s h) = gives a _ h
put_back_within name v (jumps j s h) = jumps j _ h

pub scoped_within : {w : ℕ} {A : Type 0} (name : Name) {m m' : Meaning A} → Within w m m' → Within w (scoped name m) (scoped name m')
scoped_within name h = record { by = λ s l. put_back_within name _ (h.by s l) }

pub data AllWithin (w : ℕ) {A : Type 0} : List (Meaning A) → List (Meaning A) → Type 0 where
  none : AllWithin w [] []
  more : {m m' : Meaning A} {ms ms' : List (Meaning A)} → Within w m m' → AllWithin w ms ms' → AllWithin w (m ∷ ms) (m' ∷ ms')

module _ {w : ℕ} where
  pub all_within : {ms ms' : List (Meaning Value)} → AllWithin w ms ms' → Within w (all ms) (all ms')
  all_within none = pure_within []
  all_within (more h hs) = bind_within h (λ v. bind_within (all_within hs) (λ vs. pure_within _))

  pub sequence_within : {ms ms' : List (Meaning (Unit {0}))} → AllWithin w ms ms' → Within w (sequence ms) (sequence ms')
  sequence_within none = pure_within tt
  sequence_within (more h hs) = step_within h (sequence_within hs)

-- ---- programs

-- a text that enters bodies only by one of n or, in an initializer, after an answer
pub record WithinText (text : Place → Meaning (Unit {0})) : Type 0 where
  pub by : (w : ℕ) (p : Place) {b b' : Bodies} → WithinBodies w b b' → Within w (text (with_bodies p b)) (text (with_bodies p b'))

abbrev pub WithinTexts : List Body → Type 0
WithinTexts [] = Unit {0}
WithinTexts (body ∷ bodies) = WithinText body.text × WithinTexts bodies

abbrev pub WithinInitializers : List Initializer → Type 0
WithinInitializers [] = Unit {0}
WithinInitializers (first ∷ rest) = WithinText first.text × WithinInitializers rest

pub record WithinProgram (program : Program) : Type 0 where
  pub methods : WithinTexts program.methods
  pub constructors : WithinTexts program.constructors
  pub lambdas : WithinTexts program.lambdas
  pub initializers : WithinInitializers program.initializers

module _ (program : Program) where
  enter_within : (w : ℕ) {b b' : Bodies} → WithinBodies w b b' → (list : List Body) → WithinTexts list → (site : Site) (vs : List Value) → Within (w + 1) (enter program b list site vs) (enter program b' list site vs)
  enter_within w h [] texts site vs = pay_within torn_within
  enter_within w {b} {b'} h (body ∷ list) texts site vs =
      if_within (same_site body.site site) (pay_within (step_within (assign_all_within body.parameters vs) (texts.0.by w (place program b body.site.class) h))) (enter_within w h list texts.1 site vs)

  begin_within : (w : ℕ) {b b' : Bodies} → WithinBodies w b b' → (list : List Initializer) → WithinInitializers list → (class : ClassName) → Within w (begin program b list class) (begin program b' list class)
  begin_within w h [] texts class = pure_within tt
  begin_within w {b} {b'} h (first ∷ list) texts class = if_within (same_class first.class class) (texts.0.by w (place program b class) h) (begin_within w h list texts.1 class)

  -- where no body may be entered, each is Busy
  if_busy : (c : Bool) (m m' : Meaning (Unit {0})) (s : State) → m s ≡ Busy → m' s ≡ Busy → (if c then m else m') s ≡ Busy
  if_busy true m m' s h g = h
  if_busy false m m' s h g = g

  pay_busy : (m : Meaning (Unit {0})) (s : State) → s.n ≡ 0 → (pay >> m) s ≡ Busy
  pay_busy m s e = rw e refl

  enter_busy : (b : Bodies) (list : List Body) (site : Site) (vs : List Value) (s : State) → s.n ≡ 0 → enter program b list site vs s ≡ Busy
  enter_busy b [] site vs s e = pay_busy torn s e
  enter_busy b (body ∷ list) site vs s e = if_busy (same_site body.site site) _ _ s (pay_busy _ s e) (enter_busy b list site vs s e)

  no_method : (d : ℕ) (site : Site) (vs : List Value) (s : State) → s.n ≡ 0 → (bodies program d).method site vs s ≡ Busy
  no_method zero site vs s e = refl
  no_method (suc d) site vs s e = enter_busy (bodies program d) program.methods site vs s e

  no_constructor : (d : ℕ) (site : Site) (vs : List Value) (s : State) → s.n ≡ 0 → (bodies program d).constructor site vs s ≡ Busy
  no_constructor zero site vs s e = refl
  no_constructor (suc d) site vs s e = enter_busy (bodies program d) program.constructors site vs s e

  no_lambda : (d : ℕ) (site : Site) (captured vs : List Value) (s : State) → s.n ≡ 0 → (bodies program d).lambda site captured vs s ≡ Busy
  no_lambda zero site captured vs s e = refl
  no_lambda (suc d) site captured vs s e = enter_busy (bodies program d) program.lambdas site (captured ++ vs) s e

module _ {program : Program} (texts : WithinProgram program) where
  bodies_within : (w d d' : ℕ) → w ≤ d → w ≤ d' → WithinBodies w (bodies program d) (bodies program d')
  bodies_within zero d d' l l' = record {
    method = λ site vs. record { by = λ s h. rw (no_method program d site vs s (omega arith), no_method program d' site vs s (omega arith)) busy_too };
    constructor = λ site vs. record { by = λ s h. rw (no_constructor program d site vs s (omega arith), no_constructor program d' site vs s (omega arith)) busy_too };
    lambda = λ site captured vs. record { by = λ s h. rw (no_lambda program d site captured vs s (omega arith), no_lambda program d' site captured vs s (omega arith)) busy_too };
    initializer = λ v class h. absurd (omega arith);
  }
  bodies_within (suc w) zero d' l l' = absurd (omega arith)
  bodies_within (suc w) (suc d) zero l l' = absurd (omega arith)
  bodies_within (suc w) (suc d) (suc d') l l' =
      let h : WithinBodies w (bodies program d) (bodies program d') = bodies_within w d d' (omega arith) (omega arith) in
      record {
        method = λ site vs. less (omega arith) (enter_within program w h program.methods texts.methods site vs);
        constructor = λ site vs. less (omega arith) (enter_within program w h program.constructors texts.constructors site vs);
        lambda = λ site captured vs. less (omega arith) (enter_within program w h program.lambdas texts.lambdas site (captured ++ vs));
        initializer = λ v class le. less (omega arith) (begin_within program w h program.initializers texts.initializers class);
      }

  from_within : (w : ℕ) {b b' : Bodies} → WithinBodies w b b' → (start : Start) → Within w (thread_from program b start) (thread_from program b' start)
  from_within w {b} h (Enters site vs) = step_within (touch_within (outside program b) h site.class) (apart_within (h.method site vs))
  from_within w h (Runs Null) = pure_within Null
  from_within w {b} h (Runs object) = call_on_within (outside program b) h run_site object []

  same_outcome : {u : ℕ} {A : Type 0} {o o' : Outcome A} → AtMost u o o' → o ≡ o'
  same_outcome (asks p) = refl
  same_outcome busy_too = refl
  same_outcome (gives a s h) = refl
  same_outcome (jumps k s h) = refl

  -- any larger depth gives the same thread
  pub deeper : (start : Start) (answers : List Answer) (n d : ℕ) → n + length answers ≤ d → thread_at program d start answers n ≡ thread program start answers n
  deeper start answers n d l =
      ap turn (same_outcome ((from_within (n + length answers) (bodies_within (n + length answers) d (n + length answers) l (omega arith)) start).by (record { locals = []; answers = answers; n = n }) (omega arith)))
