use Rattle.std.proofs.Common.{◌≡◌, true}
use Rattle.java_walks.proofs.Classes.{class_told, each_class, each_unit, unit_told}
use Rattle.java_walks.proofs.laws.walks_see_whole_units.Goals as goal

pub returns : goal.returns
returns c s = record {
  each_class = λ of_value of_type of_inner test. each_class of_value of_type of_inner (λ a. test a ≡ true);
  only_class = λ of_value of_type of_inner test. class_told of_value of_type of_inner (λ a. test a ≡ true);
  each_unit = λ of_value of_type test. each_unit of_value of_type (λ a. test a ≡ true);
  only_unit = λ of_value of_type test. unit_told of_value of_type (λ a. test a ≡ true);
}
