use Rattle.kotlin_declarations.proofs.Told.{abstract_clean, accessors_clean, head_clean, own_clean, twice_clean}
use Rattle.kotlin_declarations.proofs.laws.classes_are_declared.Goals as goal

pub returns-clause-head : goal.returns-clause-head
returns-clause-head c = head_clean

pub returns-clause-abstracts : goal.returns-clause-abstracts
returns-clause-abstracts c = abstract_clean

pub returns-clause-members : goal.returns-clause-members
returns-clause-members c = own_clean

pub returns-clause-twice : goal.returns-clause-twice
returns-clause-twice c = twice_clean

pub returns-clause-accessors : goal.returns-clause-accessors
returns-clause-accessors c = accessors_clean
