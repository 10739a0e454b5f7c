-- Texts that a writer took one after another.
use Rattle.std.proofs.Common.{◌++◌, ℕ, List, append_assoc, subst, sym}
use Rattle.std.specs.Prelude.{Option}
use Rattle.std.specs.Io.KnownBytes.{Appends}
use Rattle.std.proofs.KnownBytes.{Appends-trans}
use Rattle.amd_texts.specs.Writers.{HasTold}
use Rattle.amd_report.specs.Pictures.{TellsAmong}

-- a text between others
pub told-among : (a b c d : Option (List ℕ)) (text : List ℕ) → HasTold a b → Appends b c text → HasTold c d → TellsAmong a d text
told-among a b c d text before here after =
    (before.0, after.0, Appends-trans a c d (before.0 ++ text) after.0 (Appends-trans a b c before.0 text before.1 here) after.1)

-- and more before it, or behind it
pub among-behind : (a b c : Option (List ℕ)) (text : List ℕ) → HasTold a b → TellsAmong b c text → TellsAmong a c text
among-behind a b c text before among =
    let x : List ℕ = before.0 in let y : List ℕ = among.0 in let z : List ℕ = among.1 in (
      x ++ y,
      z,
      subst (Appends a c) (sym (append_assoc (x ++ y) text z))
          (subst (Appends a c) (sym (append_assoc x y (text ++ z)))
          (Appends-trans a b c x (y ++ (text ++ z)) before.1 (subst (Appends b c) (append_assoc y text z) among.2))),
    )

pub among-before : (a b c : Option (List ℕ)) (text : List ℕ) → TellsAmong a b text → HasTold b c → TellsAmong a c text
among-before a b c text among after =
    let y : List ℕ = among.0 in let z : List ℕ = among.1 in (
      y,
      z ++ after.0,
      subst (Appends a c) (append_assoc (y ++ text) z after.0)
          (Appends-trans a b c (y ++ text ++ z) after.0 among.2 after.1),
    )
