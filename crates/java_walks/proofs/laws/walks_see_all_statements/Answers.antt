use Rattle.std.proofs.Common.{◌≡◌, true}
use Rattle.java_walks.proofs.Statements.{body_told, each_body, each_statement, statement_told}
use Rattle.java_walks.proofs.laws.walks_see_all_statements.Goals as goal

pub returns : goal.returns
returns c s = record {
  each = λ of_value of_type of_inner test. each_statement of_value of_type of_inner (λ a. test a ≡ true);
  only = λ of_value of_type of_inner test. statement_told of_value of_type of_inner (λ a. test a ≡ true);
  each_body = λ of_value of_type of_inner test. each_body of_value of_type of_inner (λ a. test a ≡ true);
  only_body = λ of_value of_type of_inner test. body_told of_value of_type of_inner (λ a. test a ≡ true);
}
