-- The text at a place of a list of texts.
use Rattle.std.proofs.lemmas.Option.{slice_get-map}

pub ruleset texts = (slice_get-map)
