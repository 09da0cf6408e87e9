-- Letters opened: a heading, and the event that takes in what the letter brings.
use Rattle.std.specs.Prelude.{◌≡◌, true}
use Rattle.pcrf_model.specs.Letters.{LetterValue}
use Rattle.pcrf_model.specs.Steps.{SiteEvent}
use Rattle.peer_exchange.specs.Form.{is_addressed}
use Rattle.pcrf_serve.specs.Exchanging.{IsBrought, body_of}
use Rattle.pcrf_serve.specs.declared.heading.Heading.{Heading}

-- the letter of both
abbrev pub letter_with : Heading → SiteEvent → LetterValue
letter_with h event = record { edition = h.edition; site = h.site; epoch = h.epoch; body = body_of h.at event }

-- there is one
pub record IsOpened (h : Heading) (event : SiteEvent) : Type 0 where
  pub brought : IsBrought event
  pub addressed : is_addressed (letter_with h event) ≡ true
