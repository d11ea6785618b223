-- Every run is sound. Of the calls only the four facts of Stepping are used.
use Rattle.std.proofs.Common.{◌≡◌, true, List, [], ◌∷◌, ◌++◌, ℕ, Result, Ok, Err, OnOk, subst}
use Rattle.tip_element.specs.Laws.{Laws}
use Rattle.tip_code.specs.Primes.{listed}
use Rattle.tip_code.specs.declared.stop.Stop.{Stop}
use Rattle.tip_shelf.specs.Meaning.{Meaning, Sound}
use Rattle.tip_array.specs.Steps.{FormatStep, Step}
use Rattle.tip_array.specs.Runs.{Event, Run, Board, noted, noted_all, accepted, zero_board, meaning_after, Mirrors, SoundRun, EveryRunFrom, EveryRunOn, EveryRun}
use Rattle.tip_array.proofs.Stepping.{step_mirrors, step_kept, step_gives, step_loss}
use Rattle.tip_array.proofs.Formatting.{format_mirrors}

module _ {E : Type 0} {none : E} {join : E → E → E} (laws : Laws none join) where
  -- what is known of a shelf between two calls
  record Between (v : Meaning E) (b : Board E) : Type 0 where
    pub prime : listed v.prime ≡ true
    pub mirrors : Mirrors none join v b

  next : (v : Meaning E) (b : Board E) (x : Event E) → Between v b → Step none join v x.after x.call x.work x.outcome → Between x.after (noted b x.call (accepted x.outcome))
  next v b x h s = record {
    prime = rw (step_kept laws v x.after x.call x.work x.outcome h.prime s).prime h.prime;
    mirrors = step_mirrors laws v x.after b x.call x.work x.outcome h.prime s h.mirrors;
  }

  -- the induction: a run comes to each of its places so, and goes on from there
  come_to : (past rest : List (Event E)) (v : Meaning E) (b : Board E) → Between v b → Run none join v (past ++ rest) → Between (meaning_after v past) (noted_all b past) × Run none join (meaning_after v past) rest
  come_to [] rest v b h run = (h, run)
  come_to (x ∷ past) rest v b h run = come_to past rest x.after (noted b x.call (accepted x.outcome)) (next v b x h run.0) run.1

  module _ (v : Meaning E) (b : Board E) (h : List (Event E)) (start : Between v b) (run : Run none join v h) where
    at : (past rest : List (Event E)) → h ≡ past ++ rest → Between (meaning_after v past) (noted_all b past) × Run none join (meaning_after v past) rest
    at past rest is = come_to past rest v b start (subst (Run none join v) is run)

    run_sound : SoundRun none join v b h
    run_sound = record {
      reads = λ past rest x is i n e call gives.
          let here = at past (x ∷ rest) is in
          step_gives laws (meaning_after v past) x.after (noted_all b past) x.call x.work x.outcome i n e here.0.prime here.1.0 here.0.mirrors call gives;
      losses = λ past rest x is. step_loss laws (meaning_after v past) x.after x.call x.work x.outcome (at past (x ∷ rest) is).1.0;
      mirrors = λ past rest is. (at past rest is).0.mirrors;
    }

  pub every_run_on : EveryRunOn none join
  every_run_on v b sound mirrors h run = run_sound v b h (record { prime = sound.prime; mirrors = mirrors }) run

  -- a freshly formatted shelf mirrors the scoreboard that is zero
  pub every_run_sound : EveryRun none join
  every_run_sound v u work out sound format h run =
      run_sound u (zero_board none) h (record { prime = rw format.kept.prime sound.prime; mirrors = format_mirrors laws sound.prime format }) run

  pub format_sound : {v u : Meaning E} {work : ℕ} (o : Result ℕ Stop) → Sound v → FormatStep none v u work o → OnOk o (EveryRunFrom none join u (zero_board none))
  format_sound {v} {u} {work} (Ok out) sound h = every_run_sound v u work out sound h
  format_sound (Err s) sound h = tt
