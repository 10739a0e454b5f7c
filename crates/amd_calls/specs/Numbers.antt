-- The numbers of the statuses, and the statistics of a record.
use Rattle.std.specs.Prelude.{ℤ, pos, negsuc}
use Rattle.amd_types.specs.declared.amd.Info.{Info}
use Rattle.amd_types.specs.declared.amd.Status.{Status}
use Rattle.amd_types.specs.declared.amd.Status.TheVariants.{OK, Invalid, OkButJumbled, OutOfMemory}
use Rattle.amd_calls.specs.declared.records.Statistics.{Statistics}

-- the number of a status: 0, 1, -1, -2
abbrev pub number_of : Status → ℤ
number_of OK = pos 0
number_of OkButJumbled = pos 1
number_of OutOfMemory = negsuc 0
number_of Invalid = negsuc 1

-- the fields of a record
abbrev pub statistics_of : Info → Statistics
statistics_of info = record {
  n = info.n;
  nz = info.nz;
  symmetry = info.symmetry;
  nz_diag = info.nz_diag;
  nz_a_plus_at = info.nz_a_plus_at;
  n_dense = info.n_dense;
  n_cmp_a = info.n_cmp_a;
  bounds = record {
    lnz = info.lnz;
    n_div = info.n_div;
    n_mult_subs_ldl = info.n_mult_subs_ldl;
    n_mult_subs_lu = info.n_mult_subs_lu;
    d_max = info.d_max;
  };
}
