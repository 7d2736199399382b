mod Planning
mod Finding
mod Taking
