-- The numbers of errors.
use Rattle.std.specs.Prelude.{ℕ}
use Rattle.flat_base.specs.declared.errors.FlatlandError.{FlatlandError}
use Rattle.flat_base.specs.declared.errors.FlatlandError.TheVariants.{BadOperation, NoPresentsRemaining, BadHangingGet}

abbrev pub error_number : FlatlandError → ℕ
error_number BadOperation = 1
error_number NoPresentsRemaining = 2
error_number BadHangingGet = 3
