-- What the planner's exports promise, by the number that a host is told and the fields beside it. What a plan is, and what an outline and a
-- proposal are to be, stands in the planner's specs/Promise.antt.
use Rattle.std.specs.Prelude.{ℕ, ◌<◌, ◌≡◌, List, Ok}
use Rattle.planner.specs.Promise.{IsPlan, NoPlanExists, Proposes, Outlines}
use Rattle.flat.specs.declared.structs.ProposeAnswer.{ProposeAnswer}
use Rattle.flat.specs.declared.structs.Refusal.{Refusal}
use Rattle.flat.specs.declared.structs.StripsAnswer.{StripsAnswer}

module _ (rows bytes L : ℕ) where
  pub data OutlinesAt (z : StripsAnswer) : Type 0 where
    refused : 0 < z.refusal.number → z.count ≡ 0 → z.height ≡ 0 → z.last ≡ 0 → OutlinesAt z
    tells : z.refusal.number ≡ 0 → Outlines rows bytes L (Ok (record { count = z.count; height = z.height; last = z.last })) → OutlinesAt z

  pub data ProposesAt (plan : List ℕ) (z : ProposeAnswer) (after : List ℕ) : Type 0 where
    refused : 0 < z.refusal.number → z.count ≡ 0 → after ≡ plan → ProposesAt plan z after
    runs : z.refusal.number ≡ 0 → Proposes rows bytes L plan (Ok z.count) after → ProposesAt plan z after

  -- number 0 for a plan, and for nothing else
  pub record ChecksAt (plan : List ℕ) (z : Refusal) : Type 0 where
    pub only : z.number ≡ 0 → IsPlan rows bytes L plan
    pub always : IsPlan rows bytes L plan → z.number ≡ 0

  -- number 15 where no plan exists at all, and nowhere else
  pub record FifteenAt (z : Refusal) : Type 0 where
    pub only : z.number ≡ 15 → NoPlanExists rows bytes L
    pub always : NoPlanExists rows bytes L → z.number ≡ 15
