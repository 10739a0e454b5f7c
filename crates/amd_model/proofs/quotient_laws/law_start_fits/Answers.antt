use Rattle.amd_model.proofs.Quotient.Start.{start_fits}
use Rattle.amd_model.proofs.quotient_laws.law_start_fits.Goals as goal

pub returns : goal.returns
returns c = start_fits
