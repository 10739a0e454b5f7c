-- What stands of a workspace when parts of it were lent: the parts come back as they were, or as they are said to be.
use Rattle.std.proofs.Common.{ℕ, ℤ, List, ◌≡◌, refl}
use Rattle.amd_words.specs.Words.{rows}
use Rattle.amd_lists.specs.Renewal.{RenewsList}
use Rattle.amd_lists.specs.Spans.{row_list}
use Rattle.amd_lists.specs.Workspaces.{Workspace}
use Rattle.amd_fronts.specs.Effects.{TouchesAll}
use Rattle.amd_fronts.specs.declared.outside.Tally.{Tally}

-- a class that was counted with what was read of it, over lists that were lent
pub counted_over : (tally : ℕ → Tally) (iw : List ℤ) {more more' first first' count count' : ℕ} {pe pe0 pe' : List ℤ}
    {degree degree0 w w' : List ℕ} →
    more ≡ more' → first ≡ first' → count ≡ count' → pe ≡ pe0 → degree ≡ degree0 →
    TouchesAll (tally more) (rows iw first count) degree pe w pe' w' →
    TouchesAll (tally more') (rows iw first' count') degree0 pe0 w pe' w'
counted_over tally iw a b c d e h = rw (a, b, c, d, e) at h

-- four lists come back as they were, and others in their places
pub counted_same : (p : Workspace) {iw e_len nv : List ℤ} {degree : List ℕ} → iw ≡ p.iw → e_len ≡ p.e_len → nv ≡ p.nv →
    degree ≡ p.degree → (pe : List ℤ) (w head next last : List ℕ) →
    record p { iw = iw; pe = pe; e_len = e_len; nv = nv; degree = degree; w = w; head = head; next = next; last = last }
    ≡ record p { pe = pe; w = w; head = head; next = next; last = last }
counted_same p a b c d pe w head next last = rw (a, b, c, d) refl

-- a list that was renewed with what was read of it
pub renewed_over : {flag me from from' some some' count count' few words reach hash : ℕ} {iw iw' nv : List ℤ} {w : List ℕ} →
    from ≡ from' → some ≡ some' → count ≡ count' →
    RenewsList flag me w nv (row_list iw from some count) (row_list iw' from few words) reach hash →
    RenewsList flag me w nv (row_list iw from' some' count') (row_list iw' from' few words) reach hash
renewed_over a b c h = rw (a, b, c) at h

-- three lists come back as they were, and others in their places
pub renewed_same : (p : Workspace) {pe nv : List ℤ} {w : List ℕ} → pe ≡ p.pe → nv ≡ p.nv → w ≡ p.w → (iw e_len : List ℤ) (len : List ℕ) →
    record p { iw = iw; pe = pe; e_len = e_len; nv = nv; len = len; w = w } ≡ record p { iw = iw; e_len = e_len; len = len }
renewed_same p a b c iw e_len len = rw (a, b, c) refl
