-- What is printed, in document 01's words, and that a statement leaves one answer.
use mathlib.Core.Path.{◌≡◌, refl, sym, ap, ◌∙◌}
use mathlib.Core.Logic.{◌⊎◌, inl, inr, ⊎_elim}
use mathlib.Core.Bool.{true, false, true≢false}
use mathlib.Core.List.{List, ◌++◌, append_assoc}
use Prim.Native.Nat.{ℕ, ◌/◌, ◌≤◌, ◌<◌}
use native.Mathlib.Omega.{arith}
use lib.ListN.{length, take}
use Rattle.bits.proofs.Bools.{decided, below?}
use Rattle.standing.specs.Cells.{need}
use Rattle.routes.specs.Said.{Said, refused, refused_at, accepts}
use Rattle.routes.specs.declared.Route.{Route}
use Rattle.routes.proofs.Rows.{length-routes, records-good}
use Rattle.routes.specs.Cases.{Checked}
use Rattle.routes.proofs.Meaning.{records-right, right-records}
use Rattle.sail.specs.Geometry.{small_geo}
use Rattle.sail.specs.Sizes.{Sized}
use Rattle.sail_theory.specs.Calls.{input_routes, load_said, loaded}
use Rattle.sail.specs.Cases.{Sizing}
use Rattle.sail_theory.specs.Cases.{Readable, Load}
use Rattle.sail_theory.specs.Facts.{Loadable}
use Rattle.sail_theory.proofs.calls.SomeCase.{load-judged}
use Rattle.sail_theory.proofs.calls.OneCase.{load-only}
use Rattle.sail_theory.proofs.calls.Load.{accepted-loadable, load_said_lem, load-holds}
use Rattle.text_pieces.specs.Digits.{digits_in, digits_of}
use Rattle.text_pieces.specs.Pieces.{ascii, labelled}
use Rattle.text.specs.Text.{head_line, route_lines, table_text, said_text}
use Rattle.text_pieces.proofs.Writes.{wrote-front}
use Rattle.print_said.specs.Standing.{standing_text, page}
use Rattle.print.specs.Printed.{small_table, small_lent, line_or, out_text, printed_text, Printed}
use Rattle.print.specs.Cases.{AllRight, Prints, records}
use Rattle.print.proofs.Ways.{line-none}

small-sized : Sized small_geo small_lent
small-sized = record {
  valid = record { p1_low = omega arith; p1_high = omega arith; p2_low = omega arith; p2_high = omega arith; near = omega arith };
  whole = refl;
  room = omega arith;
  cells1 = refl;
  few2 = omega arith;
  cells2 = refl;
  few3 = omega arith;
  cells3 = refl;
  counts1 = refl;
  counts2 = refl;
}

-- each refusal is one line
six-text : said_text (refused 6) ≡ ascii "refused 6\n"
unfolding said_text labelled ascii digits_of digits_in
six-text = refl

seven-text : said_text (refused 7) ≡ ascii "refused 7\n"
unfolding said_text labelled ascii digits_of digits_in
seven-text = refl

eight-text : said_text (refused 8) ≡ ascii "refused 8\n"
unfolding said_text labelled ascii digits_of digits_in
eight-text = refl

fault-text : (input : List ℕ) (n k : ℕ) → Checked input (refused_at n k) → Prints input (said_text (refused_at n k))
unfolding said_text
fault-text input n k h = Prints.fault n k h

-- the words of a table's first line, and its other lines
words : (rs : List Route) (x y : ℕ)
    → table_text rs x y ≡ labelled "routes " (length rs) ++ labelled " second " x ++ labelled " third " y ++ ascii "\n" ++ route_lines rs
unfolding table_text head_line
words rs x y = simp append_assoc

module _ (input : List ℕ) where
  said-text : (s : Said) → load_said small_table small_lent input ≡ s → accepts s ≡ false → printed_text input ≡ said_text s
  unfolding printed_text out_text line_or
  said-text (Said.accepted vs) e h = absurd (true≢false h)
  said-text (Said.refused n) e h = rw (load_said_lem small_table small_lent input, e)
  said-text (Said.refused_at n k) e h = rw (load_said_lem small_table small_lent input, e)

  -- and a table that was loaded holds the routes of the input
  table-text : accepts (loaded small_table small_lent input).said ≡ true
      → printed_text input ≡ table_text (input_routes input) (need (input_routes input) 12) (need (input_routes input) 22)
  unfolding printed_text out_text standing_text
  table-text e =
      let h = load-holds small_table small_lent input e in
      line-none (loaded small_table small_lent input).said _ e ∙ rw (h.routes, h.geometry)

  right : Readable small_table small_lent input → AllRight input
  right w = record { whole = omega (arith, w.whole); each = λ k l. records-right input (length input / 8) w.records k l }

  -- The cases of load in the small geometry, with room for 64 records and 4 chunks in each pool; its sizes are right.
  pub printed-judged : Prints input (printed_text input)
  printed-judged = go (load-judged small_table small_lent input) refl
    where
      go : {s : Said} → Load small_table small_lent input s → load_said small_table small_lent input ≡ s → Prints input (printed_text input)
      go (Load.sizing n (Sizing.limits h)) e = absurd (h small-sized.valid)
      go (Load.sizing n (Sizing.size v h)) e = absurd (h small-sized)
      go (Load.bad_input s z b) e = bad b.checked e b.not_accepted
        where
          bad : {s : Said} → Checked input s → load_said small_table small_lent input ≡ s
              → accepts s ≡ false → Prints input (printed_text input)
          bad (Checked.ragged w) e h = rw (said-text _ e refl) (fault-text input _ _ (Checked.ragged w))
          bad (Checked.stopped k f w i b x p) e h = rw (said-text _ e refl) (fault-text input f k (Checked.stopped k f w i b x p))
          bad (Checked.many w b m) e h = rw (said-text _ e refl, six-text) (Prints.six (record { whole = w; each = b }) (omega arith))
          bad (Checked.good n w r) e h = absurd (true≢false h)
      go (Load.full w r) e = rw (said-text _ e refl, six-text) (Prints.six (right w) r)
      go (Load.second w r x) e = rw (said-text _ e refl, seven-text) (Prints.seven (right w) r x)
      go (Load.third w r x y) e = rw (said-text _ e refl, eight-text) (Prints.eight (right w) r x y)
      go (Load.done w k) e =
          rw (table-text (ap accepts (load_said_lem small_table small_lent input ∙ e)), words, length-routes)
          (Prints.table (right w) (rw length-routes at k.roomy) k.enough2 k.enough3)

  readable : AllRight input → records input ≤ 4096 → Readable small_table small_lent input
  readable r few = record {
    sized = small-sized;
    whole = omega (arith, r.whole);
    records = right-records input (length input / 8) r.each (omega (arith, r.whole)) few;
  }

  -- Nothing else is printed: each case is one of load's, and load says one thing of an input.
  pub prints-only : (text : List ℕ) → Prints input text → printed_text input ≡ text
  unfolding said_text
  prints-only _ (Prints.fault n k c) =
      said-text _ (load-only small_table small_lent input _ (Load.bad_input _ small-sized (record { checked = c; not_accepted = refl }))) refl
  prints-only _ (Prints.six r m) = said-text _ (go (below? 4096 (length input / 8))) refl ∙ six-text
    where
      go : (4096 < length input / 8) ⊎ (length input / 8 ≤ 4096) → load_said small_table small_lent input ≡ refused 6
      go (inl h) =
          let c = Checked.many r.whole r.each h in
          load-only small_table small_lent input _ (Load.bad_input _ small-sized (record { checked = c; not_accepted = refl }))
      go (inr h) = load-only small_table small_lent input _ (Load.full (readable r h) m)
  prints-only _ (Prints.seven r m x) =
      said-text _ (load-only small_table small_lent input _ (Load.second (readable r (omega arith)) m x)) refl ∙ seven-text
  prints-only _ (Prints.eight r m x y) =
      said-text _ (load-only small_table small_lent input _ (Load.third (readable r (omega arith)) m x y)) refl ∙ eight-text
  prints-only _ (Prints.table r m x y) =
      let w = readable r (omega arith) in
      let k : Loadable small_table small_lent (input_routes input) = record {
        sized = small-sized;
        good = records-good input (length input / 8) w.records;
        roomy = rw length-routes m;
        enough2 = x;
        enough3 = y;
      } in
      let e = load-only small_table small_lent input _ (Load.done w k) in
      table-text (ap accepts (load_said_lem small_table small_lent input ∙ e)) ∙ words _ _ _ ∙ rw length-routes refl

  -- The program reads 520 bytes. Where the input has more, they are 65 records, and no table is printed of them.
  pub long-refused : 512 < length input → accepts (loaded small_table small_lent input).said ≡ false
  long-refused h = go (decided (accepts (loaded small_table small_lent input).said))
    where
      go : (accepts (loaded small_table small_lent input).said ≡ true) ⊎ (accepts (loaded small_table small_lent input).said ≡ false)
          → accepts (loaded small_table small_lent input).said ≡ false
      go (inr e) = e
      go (inl e) =
          let k = accepted-loadable small_table small_lent input (sym (ap accepts (load_said_lem small_table small_lent input)) ∙ e) in
          absurd (omega (arith, k.0.whole, rw length-routes at k.1.roomy))

-- one text for each input
pub prints-once : (input x y : List ℕ) → Prints input x → Prints input y → x ≡ y
prints-once input x y p q = sym (prints-only input x p) ∙ prints-only input y q

-- Two answers that the statement of `printed` allows are the same, and leave the same buffer.
pub one-answer-printed : {input before after after' : List ℕ} {m n : ℕ}
    → Printed input before m after → Printed input before n after' → (m ≡ n) × (after ≡ after')
one-answer-printed {before = before} p q =
    ⊎_elim
    (λ (h : length before < page). ((p.short h).0 ∙ sym (q.short h).0, (p.short h).1 ∙ sym (q.short h).1))
    (λ (h : page ≤ length before). ((p.roomy h).ends ∙ sym (q.roomy h).ends, (p.roomy h).holds ∙ sym (q.roomy h).holds))
    (below? (length before) page)

-- The bytes of a page before the answer are the text: what the program writes out.
pub printed-front : {input before after : List ℕ} {n : ℕ} → page ≤ length before → Printed input before n after → take n after ≡ printed_text input
printed-front h p = wrote-front (p.roomy h)
