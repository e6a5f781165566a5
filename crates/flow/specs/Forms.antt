-- Other forms that a language may give a text: the groups of a switch as a chain of tests, and the jumps out of a block as
-- numbers that are tested behind it.
use Rattle.std.specs.Prelude.{Bool, true, false, ◌&&◌, ◌||◌, List, [], ◌∷◌}
use Rattle.flow.specs.Flows.{Flow, Part, Condition, skip, after, seq, choice, unknown, without_default, leave}

module _ {E T : Type 0} where
  -- a test that does nothing to the state
  abbrev pub open_test : Condition E T
  open_test a = unknown (skip a)

  abbrev pub perhaps : Part E T → Part E T → Part E T
  perhaps x y = choice open_test x y

  -- ---- a switch: each group begins at the choice or behind the group before

  abbrev pub groups_of : List (Part E T) → Bool → Bool → Flow E T
  groups_of [] subject before = skip before
  groups_of (x ∷ more) subject before = after (x (subject && before)) (groups_of more subject (x (subject && before)).end)

  abbrev pub switch_default : List (Part E T) → Part E T
  switch_default list a = groups_of list a true

  abbrev pub switch_open : List (Part E T) → Part E T
  switch_open list = without_default (groups_of list)

  -- each group where the number of the chosen one is at most its own
  abbrev pub chain : List (Part E T) → Part E T
  chain [] a = skip a
  chain (x ∷ more) a = seq (perhaps x skip) (chain more) a

  -- the last without a test, where a group is always chosen
  abbrev pub chain_default : Part E T → List (Part E T) → Part E T
  chain_default x [] a = x a
  chain_default x (y ∷ more) a = seq (perhaps x skip) (chain_default y more) a

-- ---- a block that is left by jumps: the number of the jump is noted, and tested behind it

module _ {T : Type 0} (same : T → T → Bool) where
  abbrev pub is_in : T → List T → Bool
  is_in m [] = false
  is_in m (t ∷ more) = same t m || is_in m more

abbrev pub all_at : {T : Type 0} → List T → (T → Bool) → Bool
all_at [] at = true
all_at (t ∷ more) at = at t && all_at more at

module _ {E T : Type 0} (same : T → T → Bool) where
  -- each jump to one of these targets ends the block
  abbrev pub coded : List T → Part E T → Part E T
  coded ts x a = record { end = (x a).end && all_at ts (x a).at; at = λ m. is_in same m ts || (x a).at m; faults = (x a).faults }

  -- where the block can end, each jump has its test, else the last has none
  abbrev pub dispatch : Bool → List T → Part E T
  dispatch ends [] a = skip a
  dispatch ends (t ∷ s ∷ more) a = seq (perhaps (leave same t) skip) (dispatch ends (s ∷ more)) a
  dispatch true (t ∷ []) a = perhaps (leave same t) skip a
  dispatch false (t ∷ []) a = leave same t a
