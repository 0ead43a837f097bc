-- The refusals of a place and of a variant, and their numbers. Assumes nothing.
use Rattle.std.specs.Prelude.{ℕ, Option}
use Rattle.replies.specs.declared.cause.Cause.{Cause}
use Rattle.replies.specs.declared.mark.Mark.{Mark}

-- no form has the number; the place cannot give what is asked; a word has no content but unit
pub data Refusal : Type 0 where
  no_form : Refusal
  unfit : Cause → Option Mark → Refusal
  word_content : Mark → Refusal

abbrev pub refusal_number : Refusal → ℕ
refusal_number no_form = 4
refusal_number (unfit c m) = 6
refusal_number (word_content m) = 7
