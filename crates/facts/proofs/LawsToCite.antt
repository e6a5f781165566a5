-- What other crates cite of this one's proofs.
pub use Rattle.facts.proofs.LaidItems.{laid_does, laid_calm, laid_keeps}
pub use Rattle.facts.proofs.LaidClasses.{calm_laid, statics_lead_laid, same_statics, same_fields, laid_runs, laid_runs_back, idle_laid, touches_laid, closed_laid}
pub use Rattle.facts.proofs.Runs.{closed_hidden, java_calm, kotlin_calm, calm_reads_earlier, idle_does_nothing}
