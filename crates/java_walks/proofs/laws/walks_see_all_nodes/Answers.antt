use Rattle.std.proofs.Common.{◌≡◌, true}
use Rattle.java_walks.proofs.Nodes.{each_node, each_told}
use Rattle.java_walks.proofs.laws.walks_see_all_nodes.Goals as goal

pub returns : goal.returns
returns c s = record {
  each = λ known own test. each_node known own (λ a. test a ≡ true);
  only = λ known own test. each_told known own (λ a. test a ≡ true);
}
