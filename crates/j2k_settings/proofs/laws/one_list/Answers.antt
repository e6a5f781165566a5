use Rattle.j2k_settings.proofs.Arrays.{sets_once}
use Rattle.j2k_settings.proofs.laws.one_list.Goals as goal

pub returns : goal.returns
returns c = sets_once
