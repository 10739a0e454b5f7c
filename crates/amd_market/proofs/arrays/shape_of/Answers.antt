-- A line that spells no size spells none of a square array.
use Rattle.amd_market.proofs.arrays.shape_of.Goals as goal

pub returns-in_default-clause-shape : goal.returns-in_default-clause-shape
returns-in_default-clause-shape c = λ n h. c.in_default.ensures n n h
