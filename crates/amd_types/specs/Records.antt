-- The records that the calls begin with.
use Rattle.std.specs.Prelude.{ℕ, false}
use Rattle.amd_types.specs.declared.amd.Info.{Info}
use Rattle.amd_types.specs.declared.amd.Status.TheVariants.{OK}

-- the record with nothing counted
abbrev pub fresh_info : ℕ → Info
fresh_info n = record {
  status = OK;
  n = n;
  nz = 0;
  symmetry = false;
  nz_diag = 0;
  nz_a_plus_at = 0;
  n_dense = 0;
  n_cmp_a = 0;
  lnz =
      0;
  n_div = 0;
  n_mult_subs_ldl = 0;
  n_mult_subs_lu = 0;
  d_max = 0;
}
