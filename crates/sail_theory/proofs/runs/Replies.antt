-- Runs by the routes alone. What a call of a run says, and which routes then stand, follows from the calls, the geometry, the room of the
-- list and the chunks lent: no cell and no owner is asked. A sound table passes the test, and after a run the table is sound.
use mathlib.Core.Path.{◌≡◌, ◌∙◌, ap}
use mathlib.Core.List.{List, [], ◌∷◌}
use Rattle.sail.specs.Lent.{Lent}
use Rattle.sail.specs.Sizes.{Sized}
use Rattle.sail.specs.Sound.{Sound, standing}
use Rattle.sail.specs.declared.table.Table.{Table}
use Rattle.sail.proofs.Fitting.{none_is}
use Rattle.sail_theory.specs.Calls.{Terms, terms_of, announce_said, withdraw_said, load_said}
use Rattle.sail_theory.specs.Replies.{reply, stood}
use Rattle.sail_theory.specs.CallRuns.{Call, announce, withdraw, load, done, after}
use Rattle.sail_theory.proofs.places.SoundTest.{sound-tells}
use Rattle.sail_theory.proofs.calls.Cleared.{announce-said, withdraw-said}
use Rattle.sail_theory.proofs.calls.Make.{make-holds}
use Rattle.sail_theory.proofs.calls.SameSizes.{terms-same}
use Rattle.sail_theory.proofs.calls.Load.{load_said_lem}
use Rattle.sail_theory.proofs.runs.AfterRun.{run_is, run-list}

-- a call on a sound table
pub done-says : (t : Table) (l : Lent) → Sound t l → (c : Call) → (done t l c).said ≡ reply (terms_of t l) (standing t l) c
unfolding done reply announce_said withdraw_said load_said
done-says t l s (announce r) = announce-said t l r ∙ rw (none_is t.geometry l s.sized, (sound-tells t l).1 s)
done-says t l s (withdraw a len) = withdraw-said t l a len ∙ rw (none_is t.geometry l s.sized, (sound-tells t l).1 s)
done-says t l s (load input) = load_said_lem t l input ∙ rw (none_is t.geometry l s.sized)

module _ (t : Table) (l : Lent) (z : Sized t.geometry l) where
  pub run-says : (c : Call) (cs : List Call) → (after t l (c ∷ cs)).said ≡ reply (terms_of t l) (standing (after t l cs).table (after t l cs).lent) c
  unfolding after
  run-says c cs =
      let w = run_is t l z cs in
      done-says (after t l cs).table (after t l cs).lent w.sound c
      ∙ ap (λ (m : Terms). reply m (standing (after t l cs).table (after t l cs).lent) c)
      (terms-same t l (after t l cs).table (after t l cs).lent w.geometry w.size)

  fresh-none : standing (after t l []).table (after t l []).lent ≡ []
  unfolding after
  fresh-none = (make-holds t l z).routes

  pub run-stood : (cs : List Call) → standing (after t l cs).table (after t l cs).lent ≡ stood (terms_of t l) cs
  unfolding stood
  run-stood [] = fresh-none
  run-stood (c ∷ cs) = run-list t l z c cs ∙ rw (run-says c cs, run-stood cs)
