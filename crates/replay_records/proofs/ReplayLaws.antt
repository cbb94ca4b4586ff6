-- Laws of replaying a list of answers. Assumes nothing.
use Rattle.std.proofs.Common.{ℕ, ◌+◌, ◌-◌, ◌≤◌, ◌<◌, ◌≡◌, sym, ap, ◌∙◌, subst, Bool, true, false, ◌&&◌, not, List, length, drop, Option, Some, arith, zero-add, add-zero, Bor}
use Rattle.std.proofs.lemmas.Bool.{false≢true}
use lib.ListN.{length-drop, drop_of_length-le}
use lib.Seq.{drop-drop}
use Rattle.record_fields.specs.declared.Call.{Call}
use Rattle.record_fields.specs.Calls.{tag_of}
use Rattle.record_fields.specs.Fields.{tag, field_count, field_start, record_length, readable}
use Rattle.record_fields.proofs.FieldLaws.{start_positive, readable_within}
use Rattle.replay_records.specs.declared.Outcome.{Outcome}
use Rattle.replay_records.specs.declared.Tally.{Tally}
use Rattle.replay_records.specs.declared.Records.{Records}
use Rattle.replay_records.specs.Replay.{step, FindsAs, Replayed, as_number, RecordsTallied, none, more, FirstDifference, at_end, here, later}
use Rattle.replay_records.specs.Walk.{GivesRecord}

-- A record was read and its call run.
pub replayed_one :
    (xs : List ℕ) (call : Call) (a : Bool) (count end : ℕ) → readable xs ≡ true → tag_of call ≡ tag xs → count ≡ field_count (tag_of call)
    → end ≡ field_start xs count → FindsAs (tag_of call) a xs → Replayed xs (record { call = Some call; length = end; agrees = a })
replayed_one xs call a count end f e is-count is-end s =
    let g : end ≡ record_length xs = is-end ∙ ap (field_start xs) (is-count ∙ ap field_count e) in
    record {
      kind_is = rw f e;
      length_is = rw f g;
      within = omega (arith, readable_within xs f);
      onward = λ h. omega (arith, start_positive xs (field_count (tag xs)));
      agrees_is = record { read = λ _. subst (λ t. FindsAs t a xs) e s; unread = λ n. absurd (false≢true (sym n ∙ f)) };
    }

-- ---- the tally

-- What is counted from here on completes a tally.
pub record Completes (Wanted : Option Call → Bool → Type 0) (xs rest : List ℕ) (t : Tally) : Type 0 where
  pub completes : (k d : ℕ) → RecordsTallied Wanted k d rest → RecordsTallied Wanted (t.replayed + k) (t.differ + d) xs
  pub replayed_few : t.replayed + length rest ≤ length xs
  pub differ_few : t.differ + length rest ≤ length xs

module _ (Wanted : Option Call → Bool → Type 0) (xs : List ℕ) where
  pub tallied_begin : (t : Tally) → (t.replayed ≡ 0) × (t.differ ≡ 0) → Completes Wanted xs xs t
  tallied_begin t e =
      record { completes = λ k d h. rw (e.0, e.1, zero-add k, zero-add d) h; replayed_few = omega (arith, e.0); differ_few = omega (arith, e.1) }

  pub tallied_end : (t : Tally) (at : ℕ) → length xs ≤ at → Completes Wanted xs (drop at xs) t → RecordsTallied Wanted t.replayed t.differ xs
  tallied_end t at h c = rw (add-zero t.replayed, add-zero t.differ) at (c.completes 0 0 (rw (drop_of_length-le xs h) none))

  -- One record more is replayed, and counted or not.
  module _ (rest : List ℕ) (o : Outcome) (t u : Tally) (h : 0 < length rest) (r : Replayed rest o) (c : Completes Wanted xs rest t) where
    pub tallied_more :
        (counted : Bool) → Wanted o.call counted → u.replayed ≡ t.replayed + as_number counted
        → u.differ ≡ t.differ + as_number (counted && not o.agrees) → Completes Wanted xs (drop o.length rest) u
    tallied_more counted is p q =
        let long : length (drop o.length rest) ≡ length rest - o.length = length-drop o.length rest in
        let most : (b : Bool) → as_number b ≤ 1 = λ b. elim b as (λ b. as_number b ≤ 1) [ true ↦ omega arith | false ↦ omega arith ] in
        record {
          completes = λ k d there.
              let e : t.replayed + (as_number counted + k) ≡ u.replayed + k = omega (arith, p) in
              let f : t.differ + (as_number (counted && not o.agrees) + d) ≡ u.differ + d = omega (arith, q) in
              rw (← e, ← f) (c.completes _ _ (more h r.agrees_is r.kind_is is (rw r.length_is at there)));
          replayed_few = omega (arith, long, p, most counted, r.onward h, r.within, c.replayed_few);
          differ_few = omega (arith, long, q, most (counted && not o.agrees), r.onward h, r.within, c.differ_few);
        }

-- ---- the first difference

-- The first difference from a place on is the first of all.
pub record Leads (xs : List ℕ) (at : ℕ) : Type 0 where
  pub leads : (k : ℕ) → FirstDifference k (drop at xs) → FirstDifference (at + k) xs
  pub within : at ≤ length xs

module _ (xs : List ℕ) where
  pub leads_begin : Leads xs 0
  leads_begin = record { leads = λ k h. rw (zero-add k) h; within = omega arith }

  pub leads_end : (at : ℕ) → length xs ≤ at → Leads xs at → FirstDifference (length xs) xs
  leads_end at h l =
      let e : at ≡ length xs = omega (arith, l.within) in
      rw e at (rw (add-zero at) at (l.leads 0 (rw (drop_of_length-le xs h) at_end)))

  module _ (at : ℕ) (o : Outcome) (h : at < length xs) (r : Replayed (drop at xs) o) (l : Leads xs at) where
    some : 0 < length (drop at xs)
    some = omega (arith, length-drop at xs)

    pub leads_here : o.agrees ≡ false → FirstDifference at xs
    leads_here e = rw (add-zero at) at (l.leads 0 (here some (rw e at r.agrees_is)))

    pub leads_later : o.agrees ≡ true → Leads xs (at + o.length)
    leads_later e =
        record {
          leads = λ k rest.
              let p : at + (step (drop at xs) + k) ≡ at + o.length + k = omega (arith, r.length_is) in
              rw (← p) (l.leads (step (drop at xs) + k) (later some (rw e at r.agrees_is) (rw (← r.length_is, drop-drop) rest)));
          within = omega (arith, r.within, length-drop at xs);
        }

-- ---- a step over the records

module _ {xs : List ℕ} {s t : Records} {x : ℕ × Outcome} (e : s.list.now ≡ xs) (g : GivesRecord s x t) where
  same : t.list.now ≡ xs
  same = ap (λ (b : Bor (List ℕ)). b.now) g.3 ∙ e

  inside : s.at < length xs
  inside = rw e at g.1

  replayed : Replayed (drop s.at xs) x.1
  replayed = rw e at g.2

  pub step_here : Leads xs s.at → x.1.agrees ≡ false → (x.0 < length xs) × FirstDifference x.0 xs
  step_here l q = rw g.0 (inside, leads_here xs s.at x.1 inside replayed l q)

  pub step_later : Leads xs s.at → x.1.agrees ≡ true → (t.list.now ≡ xs) × Leads xs t.at
  step_later l q = (same, rw g.4 (leads_later xs s.at x.1 inside replayed l q))

  pub step_fits : {Wanted : Option Call → Bool → Type 0} {v : Tally} → Completes Wanted xs (drop s.at xs) v
      → (v.replayed + 1 ≤ length xs) × (v.differ + 1 ≤ length xs)
  step_fits c = (omega (arith, inside, length-drop s.at xs, c.replayed_few), omega (arith, inside, length-drop s.at xs, c.differ_few))

  pub step_tallied :
      (Wanted : Option Call → Bool → Type 0) (v u : Tally) → Completes Wanted xs (drop s.at xs) v → (counted : Bool) → Wanted x.1.call counted
      → u.replayed ≡ v.replayed + as_number counted → u.differ ≡ v.differ + as_number (counted && not x.1.agrees)
      → (t.list.now ≡ xs) × Completes Wanted xs (drop t.at xs) u
  step_tallied Wanted v u c counted is p q =
      let h : 0 < length (drop s.at xs) = omega (arith, inside, length-drop s.at xs) in
      (same, rw (g.4, ← drop-drop) (tallied_more Wanted xs (drop s.at xs) x.1 v u h replayed c counted is p q))
