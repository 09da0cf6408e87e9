-- Responses as bytes (RFC 9112, 4; RFC 9110, 15; RFC 6585, 5).
use Rattle.std.specs.Prelude.{ℕ, List, [], ◌++◌, length, codes, decimal}
use Rattle.site_status.specs.declared.response.Media.{Media}
use Rattle.site_status.specs.declared.response.Media.TheVariants.{Text, Json, Html, Css, Script}
use Rattle.site_status.specs.declared.response.Status.{Status}
use Rattle.site_status.specs.declared.response.Status.TheVariants.{Ok, BadRequest, NotFound, MethodNotAllowed, HeadTooLong, Unavailable}

-- a status's code
abbrev pub status_code : Status → ℕ
status_code Ok = 200
status_code BadRequest = 400
status_code NotFound = 404
status_code MethodNotAllowed = 405
status_code HeadTooLong = 431
status_code Unavailable = 503

-- a status's code and phrase
abbrev pub status_text : Status → List ℕ
status_text Ok = codes "200 OK"
status_text BadRequest = codes "400 Bad Request"
status_text NotFound = codes "404 Not Found"
status_text MethodNotAllowed = codes "405 Method Not Allowed"
status_text HeadTooLong = codes "431 Request Header Fields Too Large"
status_text Unavailable = codes "503 Service Unavailable"

-- the field that a refused method is answered with
abbrev pub allow_text : Status → List ℕ
allow_text Ok = []
allow_text BadRequest = []
allow_text NotFound = []
allow_text MethodNotAllowed = codes "Allow: GET\r\n"
allow_text HeadTooLong = []
allow_text Unavailable = []

-- a response's status, and the field that a refused method is answered with
unfoldable pub head_text : Status → List ℕ
head_text status =
    codes "HTTP/1.1 " ++ status_text status ++ codes "\r\n" ++ allow_text status

-- the type of a body
abbrev pub media_text : Media → List ℕ
media_text Text = codes "text/plain; version=0.0.4; charset=utf-8"
media_text Json = codes "application/json"
media_text Html = codes "text/html; charset=utf-8"
media_text Css = codes "text/css; charset=utf-8"
media_text Script = codes "text/javascript; charset=utf-8"

-- the fields that tell what a response's body is, and that a browser takes it for nothing else and loads nothing from elsewhere (Content Security
-- Policy Level 3, 6.1.3; WHATWG Fetch, 3.6)
unfoldable pub type_text : Media → List ℕ
type_text media =
    codes "Content-Security-Policy: default-src 'self'\r\n" ++ codes "X-Content-Type-Options: nosniff\r\n"
    ++ codes "Content-Type: " ++ media_text media

-- the fields that end a response's head, and its body
unfoldable pub body_text : List ℕ → List ℕ
body_text body =
    codes "\r\nConnection: close\r\nContent-Length: " ++ decimal (length body) ++ codes "\r\n\r\n" ++ body

-- a response, behind which the connection ends
abbrev pub response_text : Status → Media → List ℕ → List ℕ
response_text status media body = head_text status ++ type_text media ++ body_text body
