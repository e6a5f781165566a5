-- The events that stand in a text, in its order.
use Rattle.std.specs.Prelude.{ℕ, ◌+◌, Bool, true, false, List, [], ◌∷◌, ◌++◌}
use Rattle.flow.specs.Acts.{Act, Test, Groups, Skip, Does, Asks, Jumps, Throws, Then, If, Forever, Block, Switch, Try, Finally, Later, Constant, Value, And, Or, Not, Choose, Done, Group}
use Rattle.flow.specs.Analyses.{Use, Reads, Assigns, Reaches}

module _ {E T : Type 0} where
  abbrev mutual
    pub stands : Act E T → List E
    stands Skip = []
    stands (Does e) = e ∷ []
    stands (Asks c) = test_stands c
    stands (Jumps t) = []
    stands Throws = []
    stands (Then x y) = stands x ++ stands y
    stands (If l c x y) = test_stands c ++ (stands x ++ stands y)
    stands (Forever x) = stands x
    stands (Block t x) = stands x
    stands (Switch d gs) = groups_stand gs
    stands (Try x y) = stands x ++ stands y
    stands (Finally x y) = stands x ++ stands y
    stands (Later x) = stands x

    pub test_stands : Test E T → List E
    test_stands (Constant b) = []
    test_stands (Value x) = stands x
    test_stands (And c d) = test_stands c ++ test_stands d
    test_stands (Or c d) = test_stands c ++ test_stands d
    test_stands (Not c) = test_stands c
    test_stands (Choose c d e) = test_stands c ++ (test_stands d ++ test_stands e)

    pub groups_stand : Groups E T → List E
    groups_stand Done = []
    groups_stand (Group x more) = stands x ++ groups_stand more

  -- those in parts that run later
  abbrev mutual
    pub stands_later : Act E T → List E
    stands_later Skip = []
    stands_later (Does e) = []
    stands_later (Asks c) = test_stands_later c
    stands_later (Jumps t) = []
    stands_later Throws = []
    stands_later (Then x y) = stands_later x ++ stands_later y
    stands_later (If l c x y) = test_stands_later c ++ (stands_later x ++ stands_later y)
    stands_later (Forever x) = stands_later x
    stands_later (Block t x) = stands_later x
    stands_later (Switch d gs) = groups_stand_later gs
    stands_later (Try x y) = stands_later x ++ stands_later y
    stands_later (Finally x y) = stands_later x ++ stands_later y
    stands_later (Later x) = stands x

    pub test_stands_later : Test E T → List E
    test_stands_later (Constant b) = []
    test_stands_later (Value x) = stands_later x
    test_stands_later (And c d) = test_stands_later c ++ test_stands_later d
    test_stands_later (Or c d) = test_stands_later c ++ test_stands_later d
    test_stands_later (Not c) = test_stands_later c
    test_stands_later (Choose c d e) = test_stands_later c ++ (test_stands_later d ++ test_stands_later e)

    pub groups_stand_later : Groups E T → List E
    groups_stand_later Done = []
    groups_stand_later (Group x more) = stands_later x ++ groups_stand_later more

-- ---- how often

abbrev pub one_if : Bool → ℕ
one_if true = 1
one_if false = 0

module _ {V P : Type 0} (here : P → Bool) where
  abbrev pub hits_of : Use V P → ℕ
  hits_of (Reads v p) = 0
  hits_of (Assigns v p) = 0
  hits_of (Reaches p) = one_if (here p)

  -- how often one of the places is reached among the events
  abbrev pub hits : List (Use V P) → ℕ
  hits [] = 0
  hits (e ∷ more) = hits_of e + hits more
