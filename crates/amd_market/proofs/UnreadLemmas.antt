-- The error of a line that was not read, as an error of this reader.
use Rattle.std.proofs.Common.{◌≡◌, ℕ, Result, Ok, Err, refl, sym, subst}
use Rattle.std.specs.Prelude.{IfOk, IfErr, IsErrAnd}
use Rattle.amd_lines.specs.Lines.{IfLong}
use Rattle.amd_lines.specs.declared.errors.LineCause.{LineCause}
use Rattle.amd_lines.specs.declared.errors.LineCause.TheVariants as cause
use Rattle.amd_market.specs.Faults.{IfTooLong, IsUnread, named_line, read_error}
use Rattle.amd_market.specs.declared.faults.ReadError.{ReadError}
use Rattle.amd_market.proofs.FaultLemmas.{handed-on}

-- an error has no value
pub no-value : {T E : Type 0} (P : T → Type 0) (Q : E → Type 0) (r : Result T E) → IsErrAnd r Q → IfOk r P
no-value P Q (Ok v) h = absurd h
no-value P Q (Err e) h = tt

-- it names the same line
pub unread-named : (n : ℕ) (c : LineCause) → named_line (read_error n c) ≡ n
unread-named n cause.Long = refl
unread-named n cause.Lines = refl
unread-named n cause.OutOfMemory = refl
unread-named n (cause.Input x) = refl

unread-is : (n : ℕ) (c : LineCause) → IsUnread (read_error n c)
unread-is n cause.Long = tt
unread-is n cause.Lines = tt
unread-is n cause.OutOfMemory = tt
unread-is n (cause.Input x) = tt

unread-long : (P : Type 0) (n : ℕ) (c : LineCause) → IfLong c P → IfTooLong (read_error n c) P
unread-long P n cause.Long h = h
unread-long P n cause.Lines h = tt
unread-long P n cause.OutOfMemory h = tt
unread-long P n (cause.Input x) h = tt

module _ {T : Type 0} (r : Result T ReadError) (n : ℕ) (c : LineCause) (told : IsErrAnd r (λ e. e ≡ read_error n c)) where
  -- what holds of that line holds of the one that the error names
  pub unread-fails : (P : ℕ → Type 0) → P n → IfErr r (λ e. P (named_line e))
  unread-fails P h = handed-on (λ e. P (named_line e)) r told (subst P (sym (unread-named n c)) h)

  -- it is an error of reading
  pub unread-read : IfErr r IsUnread
  unread-read = handed-on IsUnread r told (unread-is n c)

  -- and it tells of a line that is too long where that one does
  pub unread-meets : (P : ℕ → Type 0) → IfLong c (P n) → IfErr r (λ e. IfTooLong e (P (named_line e)))
  unread-meets P h = handed-on (λ e. IfTooLong e (P (named_line e))) r told
      (subst (λ z. IfTooLong (read_error n c) (P z)) (sym (unread-named n c)) (unread-long (P n) n c h))
