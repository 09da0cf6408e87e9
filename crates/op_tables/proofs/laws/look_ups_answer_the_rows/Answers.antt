use Rattle.op_tables.proofs.Apart.{finds_the_media_row, finds_the_apn_row}
use Rattle.op_tables.proofs.laws.look_ups_answer_the_rows.Goals as goal

pub returns-clause-media : goal.returns-clause-media
returns-clause-media c = finds_the_media_row

pub returns-clause-apn : goal.returns-clause-apn
returns-clause-apn c = finds_the_apn_row
