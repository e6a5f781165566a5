-- What a text does, as far as its variables and its jumps go, in words of no language.
use Rattle.std.specs.Prelude.{Bool}

mutual
  -- E are the events that a run makes, T the targets of jumps
  pub data Act (E T : Type 0) : Type 0 where
    Skip : Act E T
    Does : E → Act E T
    -- a test, whichever way it goes
    Asks : Test E T → Act E T
    Jumps : T → Act E T
    -- an exception is thrown
    Throws : Act E T
    Then : Act E T → Act E T → Act E T
    -- One of two by a test. The flag tells the test of a loop, whose constants say also where control can't come.
    If : Bool → Test E T → Act E T → Act E T → Act E T
    -- again and again, until it is left
    Forever : Act E T → Act E T
    -- a jump to the target ends it
    Block : T → Act E T → Act E T
    -- a choice among groups, with the groups behind the chosen one; the flag tells that one is always chosen
    Switch : Bool → Groups E T → Act E T
    -- the second may catch an exception of the first
    Try : Act E T → Act E T → Act E T
    -- the second runs whatever the end of the first
    Finally : Act E T → Act E T → Act E T
    -- it runs later, any number of times, and none of its jumps leaves it
    Later : Act E T → Act E T

  -- a text that gives a truth value
  pub data Test (E T : Type 0) : Type 0 where
    Constant : Bool → Test E T
    -- of its value nothing is known
    Value : Act E T → Test E T
    And : Test E T → Test E T → Test E T
    Or : Test E T → Test E T → Test E T
    Not : Test E T → Test E T
    Choose : Test E T → Test E T → Test E T → Test E T

  pub data Groups (E T : Type 0) : Type 0 where
    Done : Groups E T
    Group : Act E T → Groups E T → Groups E T
