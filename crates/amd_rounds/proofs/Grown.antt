-- A workspace with more words behind those that it had stands for what it stood for.
use Rattle.std.proofs.Common.{ℕ, ℤ, Bool, List, ◌++◌, ◌≡◌, ◌<◌, refl, le_refl, arith, length}
use Rattle.std.proofs.lemmas.List.{length-append, get_or_append_left}
use Rattle.std.specs.Prelude.{pos}
use Rattle.amd_model.specs.Graph.{Graph}
use Rattle.amd_model.specs.State.{State}
use Rattle.amd_model.specs.Quotient.{QuotientGraph}
use Rattle.amd_words.specs.Words.{word}
use Rattle.amd_lists.specs.Workspaces.{Workspace}
use Rattle.amd_rounds.specs.Keeps.{Stands, AreRounds}
use Rattle.amd_rounds.proofs.Compacted.{StillReads, stands_same}

abbrev pub grown : Workspace → List ℤ → Workspace
grown p more = record p { iw = p.iw ++ more }

word_before : (xs ys : List ℤ) (k : ℕ) → k < length xs → word (xs ++ ys) k ≡ word xs k
word_before xs ys k l = get_or_append_left xs ys (pos 0) k l

module _ {g : Graph} {dense : ℕ → Bool} {nzaat : ℕ} {p : Workspace} {t : QuotientGraph} {s : State}
    (st : Stands g dense nzaat p t s) (more : List ℤ) where
  still : StillReads g.size p (p.iw ++ more) p.pe p.free
  still = let y = st.laid.laid in let end = st.laid.end in record {
    long = (let l = length-append p.iw more in omega (arith, l));
    p_long = refl;
    listed = λ j. refl;
    reads = λ j h. (refl, refl, λ k l. word_before p.iw more _ (let w = y.within j h in omega (arith, l, w, end)));
    others = λ j h. refl;
    laid = record {
      within = y.within;
      apart = y.apart;
      parts = y.parts;
      words = λ k l. rw (word_before p.iw more k (omega (arith, l, end))) (y.words k l);
    };
    lower = le_refl p.free;
  }

  pub stands_grown : Stands g dense nzaat (grown p more) t s
  stands_grown = stands_same st (p.iw ++ more) p.pe p.free still

pub rounds_grown : {aggressive : Bool} {p q : Workspace} (more : List ℤ) → AreRounds aggressive p q → AreRounds aggressive p (grown q more)
rounds_grown more rounds g dense nzaat t s st =
    let a = rounds g dense nzaat t s st in (a.0, (a.1.0, a.1.1, stands_grown a.1.2 more))
