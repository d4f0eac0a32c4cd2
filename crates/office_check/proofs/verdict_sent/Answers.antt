-- `verdict_sent`: the place is changed where the certificate is refused.
use Rattle.std.proofs.Common.{sym}
use Rattle.calls.proofs.Office.{sent_other, sent_first}
use Rattle.office_check.proofs.verdict_sent.Goals as goal

pub returns-then-v-ne1 : goal.returns-then-v-ne1
returns-then-v-ne1 c = sym (sent_other _ _ c.if-v-ne1.true)

pub returns : goal.returns
returns c = sent_first _ _ _ c.if-v-ne1.false c.place_sent-place.ensures
