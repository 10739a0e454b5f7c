-- A front turned over to its new element: counters, aggressive absorption, and what is left of its classes.
use Rattle.std.specs.Prelude.{ℕ, ℤ, Bool, true, false, List, ◌≡◌, ◌<◌}
use Rattle.amd_model.specs.Quotient.{has, Once}
use Rattle.amd_words.specs.Words.{num, word, is_place, size_of, in_front}
use Rattle.amd_lists.specs.Layout.{elements_in, has_list, LosesOne}
use Rattle.amd_lists.specs.Renewal.{is_kept, is_outside}
use Rattle.amd_lists.specs.Workspaces.{Workspace}
use Rattle.amd_fronts.specs.Tallies.{front_at, CountsFront, EndsCounted}
use Rattle.amd_fronts.specs.Fronts.{RenewsFront}

-- a class of the front of me before its list is renewed: what it lists as elements is in no front, and it keeps less
-- than it lists
pub record IsTurning (n me : ℕ) (p : Workspace) (i : ℕ) : Type 0 where
  pub listed : has_list p.pe p.len i ≡ true
  pub counts : is_place (word p.e_len i) ≡ true
  pub once : Once (elements_in p.iw p.pe p.e_len i)
  pub class : 0 < size_of p.nv i
  pub marked : in_front p.nv i ≡ true
  pub bound : num p.degree i < n
  pub loses : LosesOne (is_kept p.w) (is_outside p.nv) p.iw p.pe p.e_len p.len i
  pub apart : (e : ℕ) → has (front_at p me) e ≡ true → has (elements_in p.iw p.pe p.e_len i) e ≡ false
  pub other : has (elements_in p.iw p.pe p.e_len i) me ≡ false

-- the workspace p once the classes of a front are counted as they are in v: lists start as in `left`, and `links` stand
-- behind the lists by bound
abbrev pub once_counted : Workspace → Workspace → List ℤ → List ℕ → Workspace
once_counted p v left links = record p { pe = left; w = v.w; head = v.head; next = v.next; last = links }

-- the counters are those of the rows outside the front; lists start as in `left` once elements ended; from there, with
-- `links` behind the lists by bound, the classes of the front were renewed or ended
pub record TurnsFront (aggressive : Bool) (n me : ℕ) (p v : Workspace) (gone : ℕ) : Type 0 where
  pub left : List ℤ
  pub links : List ℕ
  pub counted : CountsFront aggressive (front_at p me) p v.w
  pub ended : EndsCounted aggressive me (front_at p me) p left
  pub renewed : RenewsFront n me (front_at p me) (once_counted p v left links) v gone
