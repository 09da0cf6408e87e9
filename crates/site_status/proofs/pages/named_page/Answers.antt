use Rattle.site_status.proofs.pages.named_page.Goals as goal

pub returns-clause-none : goal.returns-clause-none
returns-clause-none c = λ _. record {
  session = c.behind.ensures.none c.in_default.is;
  subscriber = c.behind-2.ensures.none c.in_default-behind.is;
  address = c.behind-3.ensures.none c.in_default-behind-2.is;
  gateway = c.behind-4.ensures.none c.in_default-behind-3.is;
}
