-- Entries of a message, dealt with one after the other: "withdraw, then announce, in field order". What they are dealt to is a parameter: S is its
-- state, and `step` what one entry does to it. So this is said once for a table and for each party of two.
use Rattle.std.specs.Prelude.{Bool, cond, List, [], ◌∷◌, ◌++◌, map, ◌≢◌, ◌≡◌, ℕ, zero, suc, ◌+◌, ◌%◌, ◌^◌, ◌≤◌, ◌<◌, eqb, length, drop}
use Rattle.routes.specs.Said.{Said, accepted, refused, refused_at}
use Rattle.fields.specs.Field.{Net, entries}
use Rattle.fields.specs.Message.{message_fault}

-- a prefix that goes, and one that comes
pub data Entry : Type 0 where
  goes : Net → Entry
  comes : Net → Entry

-- the entries of both fields
abbrev pub all_entries : List ℕ → List ℕ → List Entry
all_entries withdrawn reach = map goes (entries withdrawn) ++ map comes (entries reach)

-- what one entry does: stop is 0 where it was dealt with, and else the number of the refusal
pub record Turn (S : Type 0) : Type 0 where
  pub stop : ℕ
  pub state : S

-- what all do: the number at which it stopped, or 0; how many were dealt with before that; and the state then
pub record Dealt (S : Type 0) : Type 0 where
  pub stop : ℕ
  pub dealt : ℕ
  pub state : S

-- "The first refusal for room stops the work, and the answer says how many entries were dealt with before it. The table is then as after exactly those"
unfoldable pub deal_by : {S : Type 0} → (S → Entry → Turn S) → ℕ → S → List Entry → Dealt S
deal_by step k s [] = record { stop = 0; dealt = k; state = s }
deal_by step k s (e ∷ es) =
    cond (eqb (step s e).stop 0)
    (deal_by step (suc k) (step s e).state es)
    (record { stop = (step s e).stop; dealt = k; state = (step s e).state })

-- the state after the first n of these
unfoldable pub after_first : {S : Type 0} → (S → Entry → Turn S) → ℕ → S → List Entry → S
after_first step zero s es = s
after_first step (suc n) s [] = s
after_first step (suc n) s (e ∷ es) = after_first step n (step s e).state es

-- e is the entry with n others before it
abbrev pub NthEntry : List Entry → ℕ → Entry → Type 0
NthEntry es n e = drop n es ≡ e ∷ drop (suc n) es

-- What the outcome d means, where k entries came before these: so many were dealt with, and none of them stopped; these were all, and the state is
-- that after them; or the next one stopped the work, in the state after exactly those. One outcome has this meaning (`ends-once`).
pub record Ends {S : Type 0} (step : S → Entry → Turn S) (k : ℕ) (s : S) (es : List Entry) (d : Dealt S) : Type 0 where
  pub done : ℕ
  pub few : done ≤ length es
  pub count : d.dealt ≡ k + done
  pub passed : (j : ℕ) (e : Entry) → j < done → NthEntry es j e → (step (after_first step j s es) e).stop ≡ 0
  pub whole : d.stop ≡ 0 → (done ≡ length es) × (d.state ≡ after_first step done s es)
  pub cut : d.stop ≢ 0 → (e : Entry) × NthEntry es done e × ((step (after_first step done s es) e).stop ≡ d.stop)
      × (d.state ≡ (step (after_first step done s es) e).state)

-- "Refusals: 1, 2 and the table's 5 first"; then those of the message itself. `sizes` is the number for the sizes, and `ok` whether what the message
-- is dealt to is sound
unfoldable pub update_fault : ℕ → Bool → List ℕ → List ℕ → ℕ → ℕ
update_fault sizes ok withdrawn reach hop = cond (eqb sizes 0) (cond ok (message_fault withdrawn reach hop) 5) sizes

-- the number with which what is said refuses; 0 where it does not
abbrev pub stop_of : Said → ℕ
stop_of (accepted vs) = 0
stop_of (refused n) = n
stop_of (refused_at n k) = n

-- what is said: all entries; or the number of the refusal that stopped the work, and how many were dealt with before it. They are counted in 32 bits,
-- so exactly for fields of less than 4 GiB together (`update-count-exact`)
abbrev pub dealt_said : {S : Type 0} → Dealt S → Said
dealt_said d = cond (eqb d.stop 0) (accepted (d.dealt % 2 ^ 32 ∷ [])) (refused_at d.stop (d.dealt % 2 ^ 32))
