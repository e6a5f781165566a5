-- Trees without the comments that are printed before their nodes.
use Rattle.std.specs.Prelude.{[], map}
use Rattle.std.specs.Option.{option_map}
use Rattle.kotlin_tree.specs.declared.expressions.KExpr.{KExpr, roll-KExpr, fold-KExpr}
use Rattle.kotlin_tree.specs.declared.expressions.KExpr.TheOpen.{KStmt-F}
use Rattle.kotlin_tree.specs.declared.expressions.KChoice.{KChoice, roll-KChoice, fold-KChoice}
use Rattle.kotlin_tree.specs.declared.statements.KStmt.{KStmt, roll-KStmt, fold-KStmt}
use Rattle.kotlin_tree.specs.declared.statements.KBranch.{KBranch, roll-KBranch, fold-KBranch}
use Rattle.kotlin_tree.specs.declared.statements.KCatch.{KCatch, roll-KCatch, fold-KCatch}
use Rattle.kotlin_tree.specs.declared.statements.KBlock.{KBlock}
use Rattle.kotlin_tree.specs.declared.members.KValue.{KValue}
use Rattle.kotlin_tree.specs.declared.members.KDelegation.{KDelegation}
use Rattle.kotlin_tree.specs.declared.members.KMember.{KMember, fold-KMember}
use Rattle.kotlin_tree.specs.declared.members.KMember.TheOpen.{KMember-F}
use Rattle.kotlin_tree.specs.declared.members.KMember.TheVariants as mb
use Rattle.kotlin_tree.specs.declared.files.KClass.{KClass}
use Rattle.kotlin_tree.specs.declared.files.KFile.{KFile}

abbrev pub uncommented_statement_by : KStmt-F KExpr KStmt KChoice KBranch KCatch → KStmt
uncommented_statement_by (KStmt-F.Commented comments statement) = statement
uncommented_statement_by x = roll-KStmt x

unfoldable pub uncommented_expression : KExpr → KExpr
uncommented_expression = fold-KExpr KExpr KStmt KChoice KBranch KCatch roll-KExpr uncommented_statement_by roll-KChoice roll-KBranch roll-KCatch

unfoldable pub uncommented_statement : KStmt → KStmt
uncommented_statement = fold-KStmt KExpr KStmt KChoice KBranch KCatch roll-KExpr uncommented_statement_by roll-KChoice roll-KBranch roll-KCatch

unfoldable pub uncommented_choice : KChoice → KChoice
uncommented_choice = fold-KChoice KExpr KStmt KChoice KBranch KCatch roll-KExpr uncommented_statement_by roll-KChoice roll-KBranch roll-KCatch

unfoldable pub uncommented_branch : KBranch → KBranch
uncommented_branch = fold-KBranch KExpr KStmt KChoice KBranch KCatch roll-KExpr uncommented_statement_by roll-KChoice roll-KBranch roll-KCatch

unfoldable pub uncommented_catch : KCatch → KCatch
uncommented_catch = fold-KCatch KExpr KStmt KChoice KBranch KCatch roll-KExpr uncommented_statement_by roll-KChoice roll-KBranch roll-KCatch

abbrev pub uncommented_block : KBlock → KBlock
uncommented_block x = record { curly = x.curly; statements = map uncommented_statement x.statements }

abbrev pub uncommented_value : KValue → KValue
uncommented_value x = record { at = x.at; tree = uncommented_expression x.tree }

abbrev pub uncommented_delegation : KDelegation → KDelegation
uncommented_delegation x = record { colon = x.colon; called = x.called; at = x.at; round = x.round; arguments = map uncommented_expression x.arguments; commas = x.commas }

abbrev pub uncommented_member_by : KMember-F KMember → KMember
uncommented_member_by (KMember-F.Commented comments member) = member
uncommented_member_by (KMember-F.Property modifiers declared value setter) = mb.Property modifiers declared (option_map uncommented_value value) setter
uncommented_member_by (KMember-F.Init at body) = mb.Init at (uncommented_block body)
uncommented_member_by (KMember-F.Function modifiers at x params result body) = mb.Function modifiers at x params result (option_map uncommented_block body)
uncommented_member_by (KMember-F.Constructor modifiers at params first body) = mb.Constructor modifiers at params (option_map uncommented_delegation first) (uncommented_block body)
uncommented_member_by (KMember-F.Companion at members) = mb.Companion at members

unfoldable pub uncommented_member : KMember → KMember
uncommented_member = fold-KMember KMember uncommented_member_by

abbrev pub uncommented_class : KClass → KClass
uncommented_class x = record {
  comments = [];
  modifiers = x.modifiers;
  word = x.word;
  at = x.at;
  name = x.name;
  params = x.params;
  supers = x.supers;
  curly = x.curly;
  members = map uncommented_member x.members;
}

-- a file without comments
unfoldable pub uncommented_file : KFile → KFile
uncommented_file x = record {
  path = x.path;
  «package» = x.package;
  imports = x.imports;
  classes = map uncommented_class x.classes;
}
