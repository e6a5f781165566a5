use Rattle.std.proofs.Common.{length}
use Rattle.java_member_tables.proofs.members.+access_in.Given as goal

abbrev pub decreases-access_in : goal.decreases-access_in
decreases-access_in l = length l.mods.now
