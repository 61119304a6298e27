-- What a call over a lent end promises, by the call by value.
use Rattle.std.specs.Prelude.{◌≡◌, Result, Ok, Err, ⊤}
use Rattle.ends.specs.declared.writing_end.WritingEnd.{WritingEnd}
use Rattle.ends.specs.declared.reading_end.ReadingEnd.{ReadingEnd}
use Rattle.ends.specs.declared.reading_end.Got.{Got}
use Rattle.operations.specs.declared.portion.Portion.{Portion}
use Rattle.ends.specs.declared.writing_end.Wrote.{Wrote}
use Rattle.ends.specs.declared.refusal.Refusal.{Refusal}

-- ---- a call over a lent end tells what the call by value answers, and the end is then the answer's; a refused one leaves it as it was
abbrev pub AsWrote : WritingEnd → Result Wrote Refusal → Result Portion Refusal → WritingEnd → Type 0
AsWrote e (Ok m) r after = (r ≡ Ok m.portion) × (after ≡ m.end)
AsWrote e (Err x) r after = (r ≡ Err x) × (after ≡ e)

abbrev pub AsGot : ReadingEnd → Result Got Refusal → Result Portion Refusal → ReadingEnd → Type 0
AsGot e (Ok m) r after = (r ≡ Ok m.portion) × (after ≡ m.end)
AsGot e (Err x) r after = (r ≡ Err x) × (after ≡ e)

abbrev pub AsTookRead : WritingEnd → Result WritingEnd Refusal → Result ⊤ Refusal → WritingEnd → Type 0
AsTookRead e (Ok f) r after = (r ≡ Ok tt) × (after ≡ f)
AsTookRead e (Err x) r after = (r ≡ Err x) × (after ≡ e)

abbrev pub AsTookWritten : ReadingEnd → Result ReadingEnd Refusal → Result ⊤ Refusal → ReadingEnd → Type 0
AsTookWritten e (Ok f) r after = (r ≡ Ok tt) × (after ≡ f)
AsTookWritten e (Err x) r after = (r ≡ Err x) × (after ≡ e)
